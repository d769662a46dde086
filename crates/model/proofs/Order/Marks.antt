-- A marking of the first lines in order, as a marking of lines: what a beginning marks, and how many lines a full marking cuts.
-- Assumes nothing.
use mathlib.Core.Bool.{Bool, true}
use mathlib.Core.List.{List, [], ◌∷◌}
use mathlib.Core.Path.{◌≡◌, refl, sym, ◌∙◌, ap}
use mathlib.Core.Logic.{⊎_elim}
use Prim.Native.Nat.{ℕ, ◌≤◌, ◌<◌}
use native.Mathlib.Nat.{eq-or-lt_of_le, le_of_suc-le-suc}
use native.Mathlib.Omega.{arith}
use lib.Dec.{eqb, leb, ltb}
use lib.ListN.{length}
use borrow.Author.Tests.{leb-true, eqb-true, eq-eqb, ne_eqb, ltb-true, ltb-false}
use Rattle.counting.specs.Tests.{bit}
use Rattle.counting.specs.Sums.{count}
use Rattle.counting.proofs.Joined.{no_way, by_test, and_left, and_right, pick_true, pick-false}
use Rattle.counting.proofs.Summed.{sum-suc, sum-none}
use Rattle.counting.proofs.Counted.{count_eq}
use Rattle.counting.proofs.Charged.{count_inj}
use Rattle.model.specs.declared.Mark.TheVariants.{Cut}
use Rattle.model.specs.Pattern.{Pattern, lines, line_total}
use Rattle.model.specs.Marking.{Marking, mark_number, unmarked, place, mark_at, marking}
use Rattle.model.specs.Walk.{cuts}
use Rattle.model.specs.State.{are_marks}
use Rattle.model.proofs.Walk.Sound.{Begins, whole, longer, begins_length}
use Rattle.model.proofs.Bound.Extended.{Extends, Marks}
use Rattle.model.proofs.Order.Places.{place-apart, place_below, line_at, line_at_lem}

-- the last mark
pub mark_last : (x : ℕ) (τ : List ℕ) → mark_at (x ∷ τ) (length τ) ≡ x
unfolding mark_at
mark_last x τ = pick_true x (mark_at τ (length τ)) (eq-eqb (length τ) (length τ) refl)

-- an earlier mark, or one past the end
pub mark_other : (x : ℕ) (τ : List ℕ) (i : ℕ) → (i ≡ length τ → ⊥) → mark_at (x ∷ τ) i ≡ mark_at τ i
unfolding mark_at
mark_other x τ i h = pick-false x (mark_at τ i) (ne_eqb i (length τ) h)

-- there is no mark in the empty marking
pub mark_none : (i : ℕ) → mark_at [] i ≡ unmarked
unfolding mark_at
mark_none i = refl

-- there is no mark past the end
pub mark_past : (τ : List ℕ) (i : ℕ) → length τ ≤ i → mark_at τ i ≡ unmarked
mark_past [] i h = mark_none i
mark_past (x ∷ τ) i h = mark_other x τ i (λ e. no_way (omega arith)) ∙ mark_past τ i (omega arith)

-- a mark other than `unmarked` stands before the end
pub mark_within : (τ : List ℕ) (i : ℕ) → mark_at τ i < unmarked → i < length τ
mark_within τ i h =
    by_test
    (ltb i (length τ))
    (λ e. ltb-true i (length τ) e)
    (λ e. no_way (omega (arith, mark_past τ i (ltb-false i (length τ) e))))

-- a marking has the marks of its beginnings
pub mark_begins : {τ ν : List ℕ} → Begins τ ν → (i : ℕ) → i < length τ → mark_at ν i ≡ mark_at τ i
mark_begins whole i h = refl
mark_begins (longer {x} {ν} b) i h =
    let l = begins_length b in
    mark_other x ν i (λ e. no_way (omega arith)) ∙ mark_begins b i h

-- legal marks are 0, 1 or cut
pub mark_small : (τ : List ℕ) (i : ℕ) → are_marks τ ≡ true → i < length τ → mark_at τ i < unmarked
unfolding are_marks
mark_small [] i h b = no_way (omega arith)
mark_small (x ∷ τ) i h b =
    ⊎_elim
    (λ e. omega (arith, ap (mark_at (x ∷ τ)) e, mark_last x τ, leb-true x 2 (and_left (leb x 2) (are_marks τ) h)))
    (λ l. omega (
      arith,
      mark_other x τ i (λ e. no_way (omega arith)),
      mark_small τ i (and_right (leb x 2) (are_marks τ) h) l,
    ))
    (eq-or-lt_of_le (le_of_suc-le-suc b))

-- place i has mark cut
unfoldable pub cut_at : List ℕ → ℕ → Bool
cut_at τ i = eqb (mark_at τ i) (mark_number Cut)

-- the cut lines of a marking are the places with mark cut
pub cuts_are : (τ : List ℕ) → cuts τ ≡ count (cut_at τ) (length τ)
unfolding cuts cut_at
cuts_are [] = sym (sum-none (λ i. bit (cut_at [] i)))
cuts_are (x ∷ τ) =
    omega (
      arith,
      cuts_are τ,
      sum-suc (λ i. bit (cut_at (x ∷ τ) i)) (length τ),
      ap (λ (y : ℕ). bit (eqb y 2)) (mark_last x τ),
      count_eq
          (cut_at (x ∷ τ))
          (cut_at τ)
          (length τ)
          (λ i b. ap (λ (y : ℕ). eqb y 2) (mark_other x τ i (λ e. no_way (omega arith)))),
    )

-- line l has mark cut
unfoldable pub cut_line : Marking → ℕ → Bool
cut_line ν l = eqb (ν l) (mark_number Cut)

-- a marking extends each of its beginnings
pub begins_extends : (P : Pattern) {τ ν : List ℕ} → Begins τ ν → Extends P (marking P τ) (marking P ν)
unfolding marking
begins_extends P {τ} {ν} b =
    record { same = λ l c h. mark_begins b (place P l) (mark_within τ (place P l) h) }

-- a marking of all k lines marks every line with nonzeros
pub full_marks : (P : Pattern) (ν : List ℕ) → length ν ≡ line_total P → are_marks ν ≡ true → Marks P (marking P ν)
unfolding marking
full_marks P ν long marks =
    record { marked = λ l c h. mark_small ν (place P l) marks (omega (arith, place_below P l c h)) }

-- no more lines have mark cut than the marking cuts
pub cut_lines_most : (P : Pattern) (ν : List ℕ) → count (cut_line (marking P ν)) (lines P) ≤ cuts ν
unfolding cut_line marking cut_at
cut_lines_most P ν =
    omega (
      arith,
      cuts_are ν,
      count_inj
          (cut_line (marking P ν))
          (cut_at ν)
          (lines P)
          (length ν)
          (place P)
          (record {
            lands = λ l c h. mark_within ν (place P l) (omega (arith, eqb-true (mark_at ν (place P l)) 2 h));
            hits = λ l c h. h;
            apart = λ j l c d g h e. place-apart P j l c d e;
          }),
    )

-- and no fewer, where it marks at most the k lines with nonzeros
pub cut_lines_least : (P : Pattern) (ν : List ℕ) → length ν ≤ line_total P → cuts ν ≤ count (cut_line (marking P ν)) (lines P)
unfolding cut_line marking cut_at
cut_lines_least P ν short =
    omega (
      arith,
      cuts_are ν,
      count_inj
          (cut_at ν)
          (cut_line (marking P ν))
          (length ν)
          (lines P)
          (line_at P)
          (record {
            lands = λ i c h. (line_at_lem P i (omega arith)).inside;
            hits = λ i c h. ap (λ (j : ℕ). eqb (mark_at ν j) 2) (line_at_lem P i (omega arith)).there ∙ h;
            apart = λ i j c d g h e.
                sym (line_at_lem P i (omega arith)).there ∙ ap (place P) e ∙ (line_at_lem P j (omega arith)).there;
          }),
    )
