-- Splits that agree on the nonzeros of patterns that are alike: they have the same volume and loads, and are written alike.
-- Assumes nothing.
use mathlib.Core.List.{List}
use mathlib.Core.Path.{◌≡◌, refl, ◌∙◌, ap}
use Prim.Native.Nat.{ℕ, zero, suc, ◌<◌}
use native.Mathlib.Omega.{arith}
use lib.ListN.{set}
use Rattle.counting.specs.Tests.{◌and◌}
use Rattle.counting.proofs.Joined.{and_eq}
use Rattle.model.specs.declared.Part.{Part}
use Rattle.model.specs.declared.Part.TheVariants.{Zero, One}
use Rattle.model.specs.declared.Caps.{Caps}
use Rattle.model.specs.Pattern.{Pattern, on}
use Rattle.model.specs.Split.{Split, Meets, part_number, same_part, holds, parts_on, volume, load}
use Rattle.model.specs.Calls.{part_bytes}
use Rattle.model.proofs.Alike.Patterns.{Alike, sums_agree, counts_agree, anys_agree, lines_same, on_same, total_same}

-- two splits agree on the nonzeros of a pattern
abbrev pub Agree : Pattern → Split → Split → Type 0
Agree P σ ρ = (t : ℕ) → t < P.size → σ t ≡ ρ t

-- splits that agree are written alike
pub bytes_same :
    (σ ρ : Split) (nonzeros : ℕ) (parts : List ℕ) → ((t : ℕ) → t < nonzeros → σ t ≡ ρ t) →
    part_bytes σ nonzeros parts ≡ part_bytes ρ nonzeros parts
unfolding part_bytes
bytes_same σ ρ zero parts h = refl
bytes_same σ ρ (suc t) parts h =
    let before : part_bytes σ t parts ≡ part_bytes ρ t parts = bytes_same σ ρ t parts (λ s b. h s (omega arith)) in
    ap (λ (xs : List ℕ). set xs t (part_number (σ t))) before
    ∙ ap (λ (p : Part). set (part_bytes ρ t parts) t (part_number p)) (h t (omega arith))

module _ {P Q : Pattern} (a : Alike P Q) (σ ρ : Split) (h : Agree P σ ρ) where
  holds_same : (p : Part) (l : ℕ) → holds P σ p l ≡ holds Q ρ p l
  unfolding holds
  holds_same p l =
      anys_agree
      (λ t. on P l t and same_part p (σ t))
      (λ t. on Q l t and same_part p (ρ t))
      a.size_same
      (λ t b. and_eq (on_same a l t b) (ap (same_part p) (h t b)))

  parts_same : (l : ℕ) → parts_on P σ l ≡ parts_on Q ρ l
  unfolding parts_on
  parts_same l = rw (holds_same Zero l, holds_same One l)

  -- the same volume
  pub volume_same : volume P σ ≡ volume Q ρ
  unfolding volume
  volume_same =
      omega (
        arith,
        sums_agree (parts_on P σ) (parts_on Q ρ) (lines_same a) (λ l b. parts_same l),
        total_same a,
      )

  -- the same loads
  pub load_same : (p : Part) → load P σ p ≡ load Q ρ p
  unfolding load
  load_same p =
      counts_agree
      (λ t. same_part p (σ t))
      (λ t. same_part p (ρ t))
      a.size_same
      (λ t b. ap (same_part p) (h t b))

  -- so both meet the caps or neither does
  pub meets_same : (caps : Caps) → Meets P caps σ → Meets Q caps ρ
  meets_same caps k =
      record {
        zero_fits = omega (arith, load_same Zero, k.zero_fits);
        one_fits = omega (arith, load_same One, k.one_fits);
      }

module _ {P Q : Pattern} (a : Alike P Q) where
  -- one split on both patterns
  pub alike_volume : (σ : Split) → volume P σ ≡ volume Q σ
  alike_volume σ = volume_same a σ σ (λ t b. refl)

  pub alike_load : (σ : Split) (p : Part) → load P σ p ≡ load Q σ p
  alike_load σ p = load_same a σ σ (λ t b. refl) p

  pub alike_meets : (caps : Caps) (σ : Split) → Meets P caps σ → Meets Q caps σ
  alike_meets caps σ = meets_same a σ σ (λ t b. refl) caps
