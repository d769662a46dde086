-- The published volume of a split is its number of cut lines, and the sum of what its lines add.
-- Assumes nothing.
use mathlib.Core.Bool.{Bool, true, false}
use mathlib.Core.Path.{◌≡◌, refl, sym, ◌∙◌}
use mathlib.Core.Logic.{◌⊎◌, inl, inr, ⊎_elim}
use Prim.Native.Nat.{ℕ, ◌+◌, ◌-◌, ◌<◌}
use native.Mathlib.Omega.{arith}
use borrow.Author.Tests.{ltb-true, lt-ltb}
use Rattle.counting.specs.Tests.{◌and◌, bit}
use Rattle.counting.specs.Sums.{sum, count}
use Rattle.counting.proofs.Joined.{by_test, clash, fails, and_left, and_right, pick_true, pick-false, bit-true, bit-false}
use Rattle.counting.proofs.Summed.{sum_eq, sum_add}
use Rattle.counting.proofs.Counted.{count-some, witness, any_elim}
use Rattle.model.specs.declared.Part.{Part}
use Rattle.model.specs.declared.Part.TheVariants.{Zero, One}
use Rattle.model.specs.Pattern.{Pattern, lines, on, line_count, nonempty, line_total}
use Rattle.model.specs.Split.{Split, same_part, holds, is_cut, parts_on, volume, line_volume}
use Rattle.model.proofs.Split.Parts.{same_is, same_of_eq, holds_intro}

-- a line that holds a nonzero is one with nonzeros
pub on-nonempty : (P : Pattern) (l t : ℕ) → t < P.size → on P l t ≡ true → nonempty P l ≡ true
unfolding nonempty line_count
on-nonempty P l t b h = lt-ltb 0 (line_count P l) (count-some (on P l) P.size t b h)

-- and the other way round
pub nonempty-on : (P : Pattern) (l : ℕ) → nonempty P l ≡ true → (t : ℕ) × (t < P.size) × (on P l t ≡ true)
unfolding nonempty line_count
nonempty-on P l h = witness (on P l) P.size (ltb-true 0 (line_count P l) h)

-- a part that holds some of a line has a nonzero of it
pub holds_elim :
    (P : Pattern) (σ : Split) (p : Part) (l : ℕ) →
    holds P σ p l ≡ true → (t : ℕ) × (t < P.size) × (on P l t ≡ true) × (σ t ≡ p)
unfolding holds
holds_elim P σ p l h =
    let w = any_elim (λ s. on P l s and same_part p (σ s)) P.size h in (
      w.0,
      w.1,
      and_left (on P l w.0) (same_part p (σ w.0)) w.2,
      sym (same_is p (σ w.0) (and_right (on P l w.0) (same_part p (σ w.0)) w.2)),
    )

-- a line with nonzeros is held by a part, and no other line is
pub held : (P : Pattern) (σ : Split) (p : Part) (l : ℕ) → holds P σ p l ≡ true → nonempty P l ≡ true
held P σ p l h = let w = holds_elim P σ p l h in on-nonempty P l w.0 w.1 w.2

pub nonempty_held :
    (P : Pattern) (σ : Split) (l : ℕ) →
    nonempty P l ≡ true → (holds P σ Zero l ≡ true) ⊎ (holds P σ One l ≡ true)
nonempty_held P σ l h = let w = nonempty-on P l h in by_part (σ w.0) refl
  where
    by_part :
        (p : Part) → σ (nonempty-on P l h).0 ≡ p →
        (holds P σ Zero l ≡ true) ⊎ (holds P σ One l ≡ true)
    by_part Zero e = let w = nonempty-on P l h in inl (holds_intro P σ Zero l w.0 w.1 w.2 (same_of_eq Zero (σ w.0) e))
    by_part One e = let w = nonempty-on P l h in inr (holds_intro P σ One l w.0 w.1 w.2 (same_of_eq One (σ w.0) e))

-- the parts on a line: one if it has nonzeros, and one more if it is cut
parts_by_test :
    (zero one some : Bool) → (zero ≡ true → some ≡ true) → (one ≡ true → some ≡ true) →
    (some ≡ true → (zero ≡ true) ⊎ (one ≡ true)) →
    bit zero + bit one ≡ bit (zero and one) + bit some
unfolding bit ◌and◌
parts_by_test true true some z o s = rw (z refl)
parts_by_test true false some z o s = rw (z refl)
parts_by_test false true some z o s = rw (o refl)
parts_by_test false false true z o s = ⊎_elim (λ e. clash e refl) (λ e. clash e refl) (s refl)
parts_by_test false false false z o s = refl

pub parts_are :
    (P : Pattern) (σ : Split) (l : ℕ) →
    parts_on P σ l ≡ bit (is_cut P σ l) + bit (nonempty P l)
unfolding parts_on is_cut
parts_are P σ l =
    parts_by_test
    (holds P σ Zero l)
    (holds P σ One l)
    (nonempty P l)
    (held P σ Zero l)
    (held P σ One l)
    (nonempty_held P σ l)

-- a line without nonzeros adds 0: it has no parts, and is not cut
pub empty_adds_none :
    (P : Pattern) (σ : Split) (l : ℕ) →
    nonempty P l ≡ false → (parts_on P σ l ≡ 0) × (is_cut P σ l ≡ false)
unfolding is_cut
empty_adds_none P σ l h =
    let uncut : is_cut P σ l ≡ false = fails (is_cut P σ l) (λ e. clash (held P σ Zero l (and_left (holds P σ Zero l) (holds P σ One l) e)) h) in
    (omega (arith, parts_are P σ l, bit-false (is_cut P σ l) uncut, bit-false (nonempty P l) h), uncut)

-- the published volume is the number of cut lines
pub volume-is-cuts : (P : Pattern) (σ : Split) → volume P σ ≡ count (is_cut P σ) (lines P)
unfolding volume line_total
volume-is-cuts P σ =
    omega (
      arith,
      sum_eq (parts_on P σ) (λ l. bit (is_cut P σ l) + bit (nonempty P l)) (lines P) (λ l b. parts_are P σ l),
      sum_add (λ l. bit (is_cut P σ l)) (λ l. bit (nonempty P l)) (lines P),
    )

-- a line adds 1 if it is cut, and nothing otherwise
line_adds : (P : Pattern) (σ : Split) (l : ℕ) → line_volume P σ l ≡ bit (is_cut P σ l)
unfolding line_volume
line_adds P σ l =
    by_test
    (nonempty P l)
    (λ h. pick_true (parts_on P σ l - 1) 0 h ∙ omega (arith, parts_are P σ l, bit-true (nonempty P l) h))
    (λ h. pick-false (parts_on P σ l - 1) 0 h ∙ sym (bit-false (is_cut P σ l) (empty_adds_none P σ l h).1))

-- the published volume is the sum of what the lines add
pub volume-is_summed : (P : Pattern) (σ : Split) → volume P σ ≡ sum (λ l. line_volume P σ l) (lines P)
volume-is_summed P σ =
    volume-is-cuts P σ
    ∙ sym (sum_eq (λ l. line_volume P σ l) (λ l. bit (is_cut P σ l)) (lines P) (λ l b. line_adds P σ l))
