-- The marks by line of a cleared trail are those of the marking that it holds.
-- Assumes nothing.
use mathlib.Core.List.{List}
use mathlib.Core.Path.{◌≡◌, ◌∙◌, ap}
use Prim.Native.Nat.{ℕ, ◌+◌, ◌≤◌, ◌<◌}
use native.Mathlib.Omega.{arith}
use lib.ListN.{length, get_or}
use Rattle.trail.specs.declared.Trail.{Trail}
use Rattle.trail.specs.Trail.{mark_room}
use Rattle.model.specs.Limits.{line_room}
use Rattle.model.specs.Pattern.{Inside, pattern_of}
use Rattle.model.specs.Marking.{marking}
use Rattle.model.specs.State.{marks_in, trail_of}
use Rattle.model.proofs.Alike.Patterns.{alike_self}
use Rattle.model.proofs.Alike.Marks.{AlikeMarks, inside_marks}
use Rattle.pattern.specs.Room.{within}
use Rattle.marking.specs.Marks.{mark_for}
use Rattle.weighing.specs.Cells.{marking_in}
use Rattle.bound.specs.Evaluated.{Placed}
use Rattle.bound.proofs.Evaluations.{by_line}
use Rattle.state.specs.Holding.{cleared_to}
use Rattle.state.proofs.Normal.{cleared_is}
use Rattle.state.proofs.StateLaws.{marks_length}

-- the two markings are alike
pub cleared_alike :
    (m n nonzeros : ℕ) (list places entries : List ℕ) (total : ℕ) (trail kept : Trail) →
    kept ≡ cleared_to trail → total ≡ within (m + n) →
    (length entries ≡ line_room) × ((l : ℕ) → l < line_room → get_or entries l 0 ≡ mark_for total places kept.marks kept.len l) →
    m + n ≤ line_room → Inside (pattern_of m n nonzeros list) → Placed (pattern_of m n nonzeros list) places → trail.len ≤ mark_room →
    AlikeMarks (pattern_of m n nonzeros list) (pattern_of m n nonzeros list) (marking_in entries) (marking (pattern_of m n nonzeros list) (marks_in trail))
unfolding trail_of
cleared_alike m n nonzeros list places entries total trail kept clears all marked few inside placed short =
    let P = pattern_of m n nonzeros list in
    let τ = marks_in trail in
    let held : kept ≡ trail_of τ = clears ∙ cleared_is trail short in
    inside_marks
    inside
    (alike_self P)
    (by_line
    m
    n
    nonzeros
    list
    places
    kept.marks
    entries
    kept.len
    total
    all
    few
    marked
    placed
    τ
    (omega (arith, marks_length trail))
    (ap (λ (t : Trail). t.marks) held)
    (ap (λ (t : Trail). t.len) held))
