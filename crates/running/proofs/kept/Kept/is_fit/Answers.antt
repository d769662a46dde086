-- `running::kept::Kept::is_fit` meets its contract.
-- Assumes nothing.
use borrow.Author.Tests.{ne_eqb}
use mathlib.Core.Bool.{false}
use mathlib.Core.Path.{sym}
use Prim.Native.Nat.{◌+◌, ◌-◌, ◌*◌}
use lib.Dec.{leb}
use lib.ListN.{get_or}
use Rattle.counting.proofs.Joined.{and_fails_left}
use Rattle.model.specs.Limits.{line_room}
use Rattle.judging.specs.Bounds.{cap_at}
use Rattle.judging.proofs.Fit.{load_test, cut_fits, part_fits}
use Rattle.running.proofs.kept.Kept.is_fit.Goals as goal

pub returns-then-p-gt1 : goal.returns-then-p-gt1
returns-then-p-gt1 c =
    let a = c.args in
    λ P μ inside h b free m v.
    cut_fits inside h a.caps v a.l b free a.p c.if-p-gt1.true m

pub returns-then-crossed-ne0 : goal.returns-then-crossed-ne0
returns-then-crossed-ne0 c =
    let a = c.args in
    let part = c.from-part.result in
    λ P μ inside h b free m v.
    part_fits
    inside
    h
    a.caps
    v
    a.l
    b
    free
    a.p
    part
    false
    c.if-p-gt1.false
    c.from-part.ensures
    (sym (and_fails_left
    (leb (get_or a.self.now.loads part 0 + get_or a.self.now.left a.l 0) (cap_at a.caps part))
    (ne_eqb (get_or a.self.now.by (line_room * (1 - part) + a.l) 0) 0 c.if-crossed-ne0.true)))

pub returns : goal.returns
returns c =
    let a = c.args in
    let part = c.from-part.result in
    λ P μ inside h b free m v.
    part_fits
    inside
    h
    a.caps
    v
    a.l
    b
    free
    a.p
    part
    (leb (c.from.result + c.from-2.result) c.cap_of.result)
    c.if-p-gt1.false
    c.from-part.ensures
    (load_test
    (get_or a.self.now.by (line_room * (1 - part) + a.l) 0)
    c.from.result
    c.from-2.result
    c.cap_of.result
    (get_or a.self.now.loads part 0)
    (get_or a.self.now.left a.l 0)
    (cap_at a.caps part)
    c.if-crossed-ne0.false
    c.from.ensures
    c.from-2.ensures
    c.cap_of.ensures)
