-- The marks of a trail but the last, and those that are left of it when it advances.
-- Assumes nothing.
use mathlib.Core.Bool.{Bool, false}
use mathlib.Core.List.{List, [], ◌∷◌}
use mathlib.Core.Path.{◌≡◌, refl, ◌∙◌, ap}
use Prim.Native.Nat.{ℕ, zero, suc, ◌-◌}
use native.Mathlib.Omega.{arith}
use lib.ListN.{length}
use Rattle.counting.proofs.Joined.{clash, no_way, and_left}
use Rattle.model.specs.Marking.{mark_at}
use Rattle.model.specs.Walk.{Rules, is_empty, advance}
use Rattle.model.specs.State.{stack, beginnings_valid}
use Rattle.model.proofs.Order.Marks.{mark_last, mark_other, mark_begins}
use Rattle.model.proofs.Order.Mirrored.{stack_eq}
use Rattle.model.proofs.Walk.Sound.{Begins}
use Rattle.model.proofs.Walk.Sound.Begins.{whole, longer}
use Rattle.model.proofs.Walk.Legal.{Legal, legal_shorter}
use Rattle.packing.specs.Packed.{earlier, last_of}
use Rattle.running.specs.Walking.{Standing}

-- a trail that is not empty is its last mark behind the earlier ones
pub trail_split : (τ : List ℕ) → is_empty τ ≡ false → τ ≡ last_of τ ∷ earlier τ
unfolding is_empty last_of earlier
trail_split [] e = clash refl e
trail_split (x ∷ τ) e = refl

-- one mark fewer
pub earlier-length : (τ : List ℕ) → length (earlier τ) ≡ length τ - 1
unfolding earlier
earlier-length [] = refl
earlier-length (x ∷ τ) = omega arith

-- a marking is the stack of its marks
stack_self : (τ : List ℕ) → stack (mark_at τ) (length τ) ≡ τ
unfolding stack
stack_self [] = refl
stack_self (x ∷ τ) =
    ap (◌∷ stack (mark_at (x ∷ τ)) (length τ)) (mark_last x τ)
    ∙ ap
    (x ∷◌)
    (stack_eq (mark_at (x ∷ τ)) (mark_at τ) (length τ) (λ i b. mark_other x τ i (λ e. no_way (omega arith))) ∙ stack_self τ)

-- and so is a beginning of it, of the first of them
pub stack_begins : {ρ ν : List ℕ} → Begins ρ ν → stack (mark_at ν) (length ρ) ≡ ρ
stack_begins {ρ} {ν} b = stack_eq (mark_at ν) (mark_at ρ) (length ρ) (mark_begins b) ∙ stack_self ρ

-- an advance changes the last mark of a beginning
pub advance_begins : (first : Bool) (ν : List ℕ) → Begins (earlier (advance first ν)) ν
unfolding advance earlier
advance_begins first [] = whole
advance_begins first (zero ∷ ν) = longer whole
advance_begins first (suc zero ∷ ν) = longer whole
advance_begins first (suc (suc x) ∷ ν) = longer (advance_begins first ν)

-- all but the last mark of a legal trail stand
pub legal_standing : {R : Rules} {x : ℕ} {τ : List ℕ} → Legal R (x ∷ τ) → Standing R τ
unfolding beginnings_valid
legal_standing {R} {x} {τ} l =
    record {
      within = (legal_shorter l).within;
      marks = (legal_shorter l).marks;
      fits = and_left (R.valid τ) (beginnings_valid R τ) l.before;
      before = (legal_shorter l).before;
    }
