-- The floor is never above the volume of a split that meets both caps, and the split that a complete search shows is least.
-- Proved for every bound from L1 up to the bound of document 01, and so for that bound and for the one without L4.
-- Assumes nothing.
use mathlib.Core.Bool.{true}
use mathlib.Core.List.{List}
use mathlib.Core.Option.{some}
use mathlib.Core.Logic.{◌↔◌}
use mathlib.Core.Path.{◌≡◌, sym, ◌∙◌, ap}
use Prim.Native.Nat.{ℕ, ◌+◌, ◌≤◌}
use native.Mathlib.Nat.{le_antisymm}
use native.Mathlib.Omega.{arith}
use Rattle.model.specs.declared.Caps.{Caps}
use Rattle.model.specs.Pattern.{Pattern, Inside}
use Rattle.model.specs.Split.{Split, Meets, volume}
use Rattle.model.specs.Marking.{Marking, marking}
use Rattle.model.specs.Bound.{L1, bound}
use Rattle.model.specs.Matching.{looks}
use Rattle.model.specs.Walk.{Record, Rules, rules_of, fresh_of, walk, walked, floor, shown_split}
use Rattle.model.specs.Calls.{shown_from}
use Rattle.model.proofs.Walk.Sound.{empty_valid}
use Rattle.model.proofs.Walk.Exact.{Exact, floor_sound, best_is, complete_exact}
use Rattle.model.proofs.Bound.Validity.{valid_is}
use Rattle.model.proofs.Bound.WithoutL4.{bound_without_L4, L1_below_bound, L1_below_without, without_below}
use Rattle.model.proofs.Order.RulesSound.{rules_by, rules_by_sound, takes-none-valid}
use Rattle.model.proofs.Order.Mirrored.{split_marked}
use Rattle.model.proofs.Order.Shown.{loads_all, shown_meets, shown_volume}

-- the walk of a pattern and its caps with another bound and other looks, after so many tries from a fresh search
unfoldable pub walked_by : Pattern → Caps → (Marking → ℕ) → (Marking → ℕ) → ℕ → Record
walked_by P caps β γ tries = walk (rules_by P caps β γ) tries (fresh_of P caps)

-- the split shown is least: it meets both caps, its volume is the best count and the floor, and no split that meets both caps has less
pub record Least (P : Pattern) (caps : Caps) (R : Rules) (r : Record) : Type 0 where
  pub marks : List ℕ
  pub best : r.best ≡ some marks
  pub meets : Meets P caps (shown_from P caps marks)
  pub counted : volume P (shown_from P caps marks) ≡ r.best_count
  pub closed : floor R r ≡ volume P (shown_from P caps marks)
  pub least : (σ : Split) → Meets P caps σ → volume P (shown_from P caps marks) ≤ volume P σ

-- the volume of the split shown from the best marking
pub least_shown :
    {P : Pattern} {caps : Caps} {R : Rules} {r : Record} {τ : List ℕ} (a : Least P caps R r) → r.best ≡ some τ →
    volume P (shown_from P caps τ) ≡ volume P (shown_from P caps a.marks)
least_shown {P} {caps} {R} {r} {τ} a best =
    let same : τ ≡ a.marks = cc a.best in
    ap (λ (x : List ℕ). volume P (shown_from P caps x)) same

module _ (P : Pattern) (caps : Caps) (β γ : Marking → ℕ) (i : Inside P) (low : (μ : Marking) → L1 P μ ≤ β μ) (high : (μ : Marking) → β μ ≤ bound P caps μ) where
  -- every split that meets both caps has at least the floor as its volume
  pub floor_below_by :
      (tries : ℕ) (σ : Split) → Meets P caps σ → floor (rules_by P caps β γ) (walked_by P caps β γ tries) ≤ volume P σ
  unfolding walked_by fresh_of rules_by
  floor_below_by tries σ meets =
      let w = split_marked P caps β γ σ i meets in
      omega (
        arith,
        floor_sound P.m P.n P.size caps tries (rules_by_sound P caps β γ i low high) w.full,
        w.few,
      )

  -- a best marking is full, and its shown split meets both caps and has at most the best count as its volume
  pub shown_by :
      (tries : ℕ) (τ : List ℕ) → P.size ≤ caps.cap0 + caps.cap1 → (walked_by P caps β γ tries).best ≡ some τ →
      Meets P caps (shown_from P caps τ) × (volume P (shown_from P caps τ) ≤ (walked_by P caps β γ tries).best_count)
  unfolding walked_by fresh_of rules_by shown_from
  shown_by tries τ enough e =
      let S = rules_by_sound P caps β γ i low high in
      let w = best_is (rules_by P caps β γ) P.m P.n P.size caps tries τ (empty_valid S) e in (
        shown_meets P caps (marking P τ) (valid_is P caps (marking P τ) w.0.fits) enough,
        omega (arith, shown_volume P caps τ w.0.long w.0.marks w.0.fits, w.1),
      )

  -- a complete search is exact
  exact_by :
      (tries : ℕ) → (walked_by P caps β γ tries).complete ≡ true → Exact (rules_by P caps β γ) (walked_by P caps β γ tries)
  unfolding walked_by fresh_of rules_by
  exact_by tries done = complete_exact P.m P.n P.size caps tries (rules_by_sound P caps β γ i low high) done

  -- a complete search shows a least split
  pub complete_by :
      (tries : ℕ) → P.size ≤ caps.cap0 + caps.cap1 → (walked_by P caps β γ tries).complete ≡ true →
      Least P caps (rules_by P caps β γ) (walked_by P caps β γ tries)
  complete_by tries enough done =
      record {
        marks = x.marking;
        best = x.best;
        meets = s.0;
        counted = omega (arith, s.1, below, x.closed);
        closed = omega (arith, s.1, below, x.closed);
        least = λ σ m. omega (arith, s.1, x.closed, floor_below_by tries σ m);
      }
    where
      x : Exact (rules_by P caps β γ) (walked_by P caps β γ tries)
      x = exact_by tries done

      s : Meets P caps (shown_from P caps x.marking) × (volume P (shown_from P caps x.marking) ≤ (walked_by P caps β γ tries).best_count)
      s = shown_by tries x.marking enough x.best

      below : floor (rules_by P caps β γ) (walked_by P caps β γ tries) ≤ volume P (shown_from P caps x.marking)
      below = floor_below_by tries (shown_from P caps x.marking) s.0

-- every split that meets both caps has at least the floor as its volume
pub floor_below_volume :
    (P : Pattern) (caps : Caps) (tries : ℕ) (σ : Split) →
    Inside P → Meets P caps σ → floor (rules_of P caps) (walked P caps tries) ≤ volume P σ
unfolding walked rules_of walked_by rules_by
floor_below_volume P caps tries σ i meets =
    floor_below_by P caps (bound P caps) (looks P) i (L1_below_bound P caps) (λ μ. omega arith) tries σ meets

-- a split shown meets both caps and has at most the best count as its volume
pub shown-within :
    (P : Pattern) (caps : Caps) (tries : ℕ) (τ : List ℕ) →
    Inside P → P.size ≤ caps.cap0 + caps.cap1 → (walked P caps tries).best ≡ some τ →
    Meets P caps (shown_from P caps τ) × (volume P (shown_from P caps τ) ≤ (walked P caps tries).best_count)
unfolding walked rules_of walked_by rules_by
shown-within P caps tries τ i enough e =
    shown_by P caps (bound P caps) (looks P) i (L1_below_bound P caps) (λ μ. omega arith) tries τ enough e

-- a complete search has a best marking, and the split shown from it is least
pub complete_least :
    (P : Pattern) (caps : Caps) (tries : ℕ) →
    Inside P → P.size ≤ caps.cap0 + caps.cap1 → (walked P caps tries).complete ≡ true →
    Least P caps (rules_of P caps) (walked P caps tries)
unfolding walked rules_of walked_by rules_by
complete_least P caps tries i enough done =
    complete_by P caps (bound P caps) (looks P) i (L1_below_bound P caps) (λ μ. omega arith) tries enough done

-- with any bound from L1 up to the bound, and any looks, complete searches end at the same volume
pub same_volume :
    (P : Pattern) (caps : Caps) (β γ : Marking → ℕ) (tries more : ℕ) (τ ν : List ℕ) →
    Inside P → P.size ≤ caps.cap0 + caps.cap1 → ((μ : Marking) → L1 P μ ≤ β μ) → ((μ : Marking) → β μ ≤ bound P caps μ) →
    (walked P caps tries).complete ≡ true → (walked P caps tries).best ≡ some τ →
    (walked_by P caps β γ more).complete ≡ true → (walked_by P caps β γ more).best ≡ some ν →
    volume P (shown_from P caps τ) ≡ volume P (shown_from P caps ν)
same_volume P caps β γ tries more τ ν i enough low high done best also found =
    let a = complete_least P caps tries i enough done in
    let b = complete_by P caps β γ i low high more enough also in
    least_shown a best
    ∙ le_antisymm
    (a.least (shown_from P caps b.marks) b.meets)
    (b.least (shown_from P caps a.marks) a.meets)
    ∙ sym (least_shown b found)

-- the same walk with L4 left out of the bound, and so without looks, also complete from a fresh record, ends at the same volume
pub same_without-L4 :
    (P : Pattern) (caps : Caps) (tries more : ℕ) (τ ν : List ℕ) →
    Inside P → P.size ≤ caps.cap0 + caps.cap1 →
    (walked P caps tries).complete ≡ true → (walked P caps tries).best ≡ some τ →
    (walked_by P caps (bound_without_L4 P caps) (λ μ. 0) more).complete ≡ true →
    (walked_by P caps (bound_without_L4 P caps) (λ μ. 0) more).best ≡ some ν →
    volume P (shown_from P caps τ) ≡ volume P (shown_from P caps ν)
same_without-L4 P caps tries more τ ν i enough =
    same_volume
    P
    caps
    (bound_without_L4 P caps)
    (λ μ. 0)
    tries
    more
    τ
    ν
    i
    enough
    (L1_below_without P caps)
    (without_below P caps)

-- a split that meets both caps exists exactly if N is at most cap 0 + cap 1
pub split_exists : (P : Pattern) (caps : Caps) → ((σ : Split) × Meets P caps σ) ↔ (P.size ≤ caps.cap0 + caps.cap1)
split_exists P caps = (
  (λ s. omega (arith, loads_all P s.0, s.1.zero_fits, s.1.one_fits)),
  (λ enough. (
    shown_split P caps (λ l. 3),
    shown_meets P caps (λ l. 3) (valid_is P caps (λ l. 3) (takes-none-valid P caps (λ l. 3) (λ l. omega arith))) enough,
  )),
)
