-- The rules of a pattern and its caps are sound, and so are those with any bound from L1 up to the bound.
-- Assumes nothing.
use mathlib.Core.Bool.{true, false}
use mathlib.Core.List.{List, ◌∷◌}
use mathlib.Core.Path.{◌≡◌, ap}
use Prim.Native.Nat.{ℕ, zero, suc, ◌≤◌}
use native.Mathlib.Omega.{arith}
use lib.Dec.{eqb}
use lib.ListN.{length, replicate}
use borrow.Author.Tests.{eqb-true, eqb-false, ne_eqb}
use Rattle.counting.proofs.Joined.{no_way, by_test, or_fails}
use Rattle.counting.proofs.Counted.{count_none}
use Rattle.model.specs.declared.Part.{Part}
use Rattle.model.specs.declared.Part.TheVariants.{Zero, One}
use Rattle.model.specs.declared.Mark.TheVariants.{To}
use Rattle.model.specs.declared.Caps.{Caps}
use Rattle.model.specs.Pattern.{Pattern, Inside, row_line, column_line, line_total}
use Rattle.model.specs.Split.{unequal}
use Rattle.model.specs.Marking.{Marking, mark_number, place, mark_at, marking, takes, valid}
use Rattle.model.specs.Bound.{L1, bound}
use Rattle.model.specs.Matching.{looks}
use Rattle.model.specs.Walk.{Rules, rules_of}
use Rattle.model.proofs.Walk.Sound.{Sound}
use Rattle.model.proofs.Bound.Validity.{is-valid}
use Rattle.model.proofs.Bound.Extended.{valid_begins, bound_below_marking}
use Rattle.model.proofs.Bound.WithoutL4.{L1-is, L1_below_bound}
use Rattle.model.proofs.Order.Marks.{mark_none, mark_last, mark_other, cut_line, begins_extends, full_marks, cut_lines_most, cut_lines_least}

-- a number from 2 on is no part's mark
no_part : (x : ℕ) (p : Part) → 2 ≤ x → eqb x (mark_number (To p)) ≡ false
no_part x Zero h = ne_eqb x 0 (λ e. no_way (omega arith))
no_part x One h = ne_eqb x 1 (λ e. no_way (omega arith))

-- a marking that gives no line to a part takes no nonzero
pub takes_none :
    (P : Pattern) (ν : Marking) (p : Part) (t : ℕ) → ((l : ℕ) → 2 ≤ ν l) → takes P ν p t ≡ false
unfolding takes
takes_none P ν p t h =
    or_fails (no_part (ν (row_line P t)) p (h (row_line P t))) (no_part (ν (column_line P t)) p (h (column_line P t)))

-- and is valid under all caps
pub takes-none-valid : (P : Pattern) (caps : Caps) (ν : Marking) → ((l : ℕ) → 2 ≤ ν l) → valid P caps ν ≡ true
takes-none-valid P caps ν h =
    is-valid
    P
    caps
    ν
    (record {
      once = λ t b e. takes_none P ν One t h;
      fits = λ p. omega (arith, count_none (takes P ν p) P.size (λ t b. takes_none P ν p t h));
    })

-- one mark more that is no part's leaves a marking without parts
high_mark : (x : ℕ) (τ : List ℕ) (i : ℕ) → 2 ≤ x → 2 ≤ mark_at τ i → 2 ≤ mark_at (x ∷ τ) i
high_mark x τ i h g =
    by_test
    (eqb i (length τ))
    (λ e. omega (arith, ap (mark_at (x ∷ τ)) (eqb-true i (length τ) e), mark_last x τ))
    (λ e. omega (arith, mark_other x τ i (eqb-false i (length τ) e)))

-- the marking that cuts every line gives none to a part
all_cut_high : (k i : ℕ) → 2 ≤ mark_at (replicate k 2) i
all_cut_high zero i = omega (arith, mark_none i)
all_cut_high (suc k) i = high_mark 2 (replicate k 2) i (omega arith) (all_cut_high k i)

all_cut_lines : (P : Pattern) (l : ℕ) → 2 ≤ marking P (replicate (line_total P) 2) l
unfolding marking
all_cut_lines P l = all_cut_high (line_total P) (place P l)

-- the rules of a pattern and its caps with another bound and other looks
unfoldable pub rules_by : Pattern → Caps → (Marking → ℕ) → (Marking → ℕ) → Rules
rules_by P caps β γ =
    record {
      k = line_total P;
      one_first = unequal caps;
      valid = λ trail. valid P caps (marking P trail);
      bound = λ trail. β (marking P trail);
      looks = λ trail. γ (marking P trail);
    }

-- a bound from L1 up to the bound is sound, whatever its looks
pub rules_by_sound :
    (P : Pattern) (caps : Caps) (β γ : Marking → ℕ) → Inside P →
    ((μ : Marking) → L1 P μ ≤ β μ) → ((μ : Marking) → β μ ≤ bound P caps μ) → Sound (rules_by P caps β γ)
unfolding rules_by cut_line
rules_by_sound P caps β γ i low high =
    record {
      beginning = λ τ ν b f.
          let x = begins_extends P b in
          let m = full_marks P ν f.long f.marks in (
            valid_begins P caps (marking P τ) (marking P ν) i x f.fits,
            omega (
              arith,
              high (marking P τ),
              bound_below_marking P caps (marking P τ) (marking P ν) i x m f.fits,
              cut_lines_most P ν,
            ),
          );
      full = λ ν f.
          omega (
            arith,
            low (marking P ν),
            L1-is P (marking P ν),
            cut_lines_least P ν (omega (arith, f.long)),
          );
      all_cut = takes-none-valid P caps (marking P (replicate (line_total P) 2)) (all_cut_lines P);
    }

-- the rules of a pattern and its caps are sound
pub rules_sound : (P : Pattern) (caps : Caps) → Inside P → Sound (rules_of P caps)
unfolding rules_of rules_by
rules_sound P caps i =
    rules_by_sound P caps (bound P caps) (looks P) i (L1_below_bound P caps) (λ μ. omega arith)
