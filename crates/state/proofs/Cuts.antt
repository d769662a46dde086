-- The number of marks cut, one mark more.
-- Assumes nothing.
use mathlib.Core.List.{List}
use mathlib.Core.Path.{◌≡◌, refl, ◌∙◌, ap}
use Prim.Native.Nat.{ℕ, ◌+◌}
use native.Mathlib.Numerals.{add-one}
use native.Mathlib.Omega.{arith}
use lib.Dec.{eqb}
use borrow.Author.Tests.{eq-eqb, ne_eqb}
use Rattle.counting.proofs.Joined.{bit-true, bit-false}
use Rattle.trail.specs.Trail.{mark_or}
use Rattle.model.specs.Walk.{cuts}
use Rattle.model.specs.State.{stack}
use Rattle.state.specs.Legal.{cuts_in}

-- no cuts before the first mark
pub cuts-none : (marks : List ℕ) → cuts_in marks 0 ≡ 0
unfolding cuts_in cuts stack
cuts-none marks = refl

-- one mark more, cut or not
pub cuts-more : (marks : List ℕ) (i : ℕ) → mark_or 0 marks i ≡ 2 → cuts_in marks (i + 1) ≡ cuts_in marks i + 1
unfolding cuts_in cuts stack
cuts-more marks i h =
    ap (cuts_in marks) (add-one i) ∙ omega (arith, bit-true (eqb (mark_or 0 marks i) 2) (eq-eqb (mark_or 0 marks i) 2 h))

pub cuts_same : (marks : List ℕ) (i : ℕ) → (mark_or 0 marks i ≡ 2 → ⊥) → cuts_in marks (i + 1) ≡ cuts_in marks i
unfolding cuts_in cuts stack
cuts_same marks i h =
    ap (cuts_in marks) (add-one i) ∙ omega (arith, bit-false (eqb (mark_or 0 marks i) 2) (ne_eqb (mark_or 0 marks i) 2 h))
