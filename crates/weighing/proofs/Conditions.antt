-- The condition of a line from its mark and two tests.
-- Assumes nothing.
use mathlib.Core.Bool.{Bool, true, false}
use mathlib.Core.Path.{◌≡◌, refl, ◌∙◌, ap}
use Prim.Native.Nat.{ℕ, zero, suc, ◌≤◌}
use native.Mathlib.Omega.{arith}
use Rattle.counting.proofs.Joined.{no_way}
use Rattle.model.specs.Marking.{unmarked, condition_for}

-- every number that is no mark stands for no mark
pub free_as_unmarked : (x : ℕ) (a b : Bool) → unmarked ≤ x → condition_for x a b ≡ condition_for unmarked a b
unfolding condition_for
free_as_unmarked zero a b h = no_way (omega arith)
free_as_unmarked (suc zero) a b h = no_way (omega arith)
free_as_unmarked (suc (suc zero)) a b h = no_way (omega arith)
free_as_unmarked (suc (suc (suc x))) true true h = refl
free_as_unmarked (suc (suc (suc x))) true false h = refl
free_as_unmarked (suc (suc (suc x))) false true h = refl
free_as_unmarked (suc (suc (suc x))) false false h = refl

-- a number other than the three marks stands for no mark
pub unmarked_rest : (x : ℕ) → (x ≡ 0 → ⊥) → (x ≡ 1 → ⊥) → (x ≡ 2 → ⊥) → unmarked ≤ x
unmarked_rest x a b c = omega arith

-- the condition depends on the two tests only at lines not marked 0 or 1
pub condition_open :
    (x : ℕ) (a b a' b' : Bool) → (2 ≤ x → a ≡ a') → (2 ≤ x → b ≡ b') → condition_for x a b ≡ condition_for x a' b'
unfolding condition_for
condition_open zero a b a' b' e f = refl
condition_open (suc zero) a b a' b' e f = refl
condition_open (suc (suc x)) a b a' b' e f =
    ap (λ (y : Bool). condition_for (suc (suc x)) y b) (e (omega arith))
    ∙ ap (λ (y : Bool). condition_for (suc (suc x)) a' y) (f (omega arith))
