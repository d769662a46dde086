use mathlib.Core.Bool.{Bool}
use mathlib.Core.Path.{◌≡◌, refl, sym, ◌∙◌, ap}
use native.Mathlib.Omega.{arith}
use Prim.Native.Nat.{ℕ, ◌<◌}
use lib.Dec.{ltb}
use lib.ListN.{length, get_or, length-set, get_or-replicate}
use Rattle.counting.specs.Tests.{pick}
use Rattle.model.specs.Limits.{line_room}
use Rattle.model.specs.Marking.{unmarked}
use Rattle.pattern.specs.Room.{within}
use Rattle.pattern.proofs.Within.{within_most, within_test}
use Rattle.marking.specs.Marks.{mark_by, mark_for}
use Rattle.marking.proofs.Filled.{fill_none, fill_more}
use Rattle.marking.proofs.marks.marks_by_line.Goals as goal

pub loop-l-init : goal.loop-l-init
loop-l-init c =
    let a = c.args in (
      refl,
      λ j b. get_or-replicate {A = ℕ} line_room j unmarked 0 b
          ∙ sym (fill_none (λ i. mark_by a.trail.now.marks a.trail.now.len (get_or a.places.now i 0)) (λ _. unmarked) j),
    )

pub bounds-places-l : goal.bounds-places-l
bounds-places-l c = omega (arith, within_most c.from.result)

pub bounds-by_line-l : goal.bounds-by_line-l
bounds-by_line-l c = omega (arith, within_most c.from.result)

pub loop-l-preserved : goal.loop-l-preserved
loop-l-preserved c =
    let a = c.args in
    let inside : c.loop-l.l < length c.loop-l.by_line = omega (arith, within_most c.from.result) in (
      length-set c.loop-l.by_line _ c.mark_of.result ∙ c.loop-l.invariant.0,
      fill_more
          (λ i. mark_by a.trail.now.marks a.trail.now.len (get_or a.places.now i 0))
          (λ _. unmarked)
          c.loop-l.by_line
          c.loop-l.l
          c.mark_of.result
          inside
          c.mark_of.ensures
          c.loop-l.invariant.1,
    )

pub returns : goal.returns
unfolding mark_for
returns c =
    let a = c.args in
    let f : c.lines_within.result ≡ within a.lines = c.lines_within.ensures ∙ ap within c.from.ensures in
    let e : c.loop-l.l ≡ within a.lines = omega arith in (
      c.loop-l.invariant.0,
      λ l b. c.loop-l.invariant.1 l b
          ∙ ap
          (λ (t : Bool). pick t (mark_by a.trail.now.marks a.trail.now.len (get_or a.places.now l 0)) unmarked)
          (ap (ltb l) e ∙ within_test a.lines l b),
    )
