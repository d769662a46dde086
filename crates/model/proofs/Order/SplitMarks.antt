-- The marking of a split: every line with nonzeros is cut, or has the part that holds all of them.
-- Assumes nothing.
use mathlib.Core.Bool.{Bool, true, false}
use mathlib.Core.List.{List, ◌∷◌}
use mathlib.Core.Path.{◌≡◌, refl, sym, ◌∙◌, ap}
use mathlib.Core.Logic.{⊎_elim}
use Prim.Native.Nat.{ℕ, zero, suc, ◌≤◌, ◌<◌}
use native.Mathlib.Nat.{eq-or-lt_of_le, le_of_suc-le-suc}
use native.Mathlib.Omega.{arith}
use lib.Dec.{eqb}
use lib.ListN.{length}
use borrow.Author.Tests.{eqb-true, le-leb}
use Rattle.counting.specs.Tests.{◌and◌}
use Rattle.counting.specs.Sums.{count}
use Rattle.counting.proofs.Joined.{no_way, clash, fails, and_intro, or_cases}
use Rattle.counting.proofs.Counted.{count_mono}
use Rattle.counting.proofs.Charged.{count_inj}
use Rattle.model.specs.declared.Part.{Part}
use Rattle.model.specs.declared.Part.TheVariants.{Zero, One}
use Rattle.model.specs.declared.Mark.TheVariants.{To, Cut}
use Rattle.model.specs.declared.Caps.{Caps}
use Rattle.model.specs.Pattern.{Pattern, Inside, lines, row_line, column_line, on, nonempty, line_total}
use Rattle.model.specs.Split.{Split, Meets, part_number, same_part, holds, is_cut, volume, load}
use Rattle.model.specs.Marking.{mark_number, place, mark_at, marking, takes, valid}
use Rattle.model.specs.Walk.{cuts}
use Rattle.model.specs.State.{stack, are_marks}
use Rattle.model.proofs.Split.Lines.{on_row, on_column, row_line_in, column_line_in}
use Rattle.model.proofs.Split.Parts.{same_of_eq, two_parts, holds_intro, part_fits}
use Rattle.model.proofs.Split.Volume.{on-nonempty, volume-is-cuts}
use Rattle.model.proofs.Bound.Validity.{is-valid}
use Rattle.model.proofs.Order.Places.{place_below, line_at, line_at_lem, at_place}
use Rattle.model.proofs.Order.Marks.{mark_last, mark_other, cut_at, cuts_are}

-- a stack of d marks has d marks
pub stack-length : (f : ℕ → ℕ) (d : ℕ) → length (stack f d) ≡ d
unfolding stack
stack-length f zero = refl
stack-length f (suc d) = ap suc (stack-length f d)

-- and its mark at place i is the ith
pub stack_mark : (f : ℕ → ℕ) (d i : ℕ) → i < d → mark_at (stack f d) i ≡ f i
unfolding stack
stack_mark f zero i b = no_way (omega arith)
stack_mark f (suc d) i b =
    let long = stack-length f d in
    ⊎_elim
    (λ e. ap (mark_at (f d ∷ stack f d)) (e ∙ sym long) ∙ mark_last (f d) (stack f d) ∙ ap f (sym e))
    (λ l. mark_other (f d) (stack f d) i (λ e. no_way (omega arith)) ∙ stack_mark f d i l)
    (eq-or-lt_of_le (le_of_suc-le-suc b))

-- a stack of legal marks is legal
pub stack_marks : (f : ℕ → ℕ) (d : ℕ) → ((i : ℕ) → f i ≤ 2) → are_marks (stack f d) ≡ true
unfolding stack are_marks
stack_marks f zero h = refl
stack_marks f (suc d) h = and_intro (le-leb (f d) 2 (h d)) (stack_marks f d h)

-- the mark of a line that holds part 0 or not, and part 1 or not
unfoldable pub mark_of : Bool → Bool → ℕ
mark_of true true = mark_number Cut
mark_of true false = mark_number (To Zero)
mark_of false one = mark_number (To One)

-- the mark that a split gives a line
unfoldable pub split_mark : Pattern → Split → ℕ → ℕ
split_mark P σ l = mark_of (holds P σ Zero l) (holds P σ One l)

mark_small : (zero one : Bool) → mark_of zero one ≤ 2
unfolding mark_of
mark_small true true = omega arith
mark_small true false = omega arith
mark_small false one = omega arith

-- it is 0, 1 or cut
pub split_mark_small : (P : Pattern) (σ : Split) (l : ℕ) → split_mark P σ l ≤ 2
unfolding split_mark
split_mark_small P σ l = mark_small (holds P σ Zero l) (holds P σ One l)

-- what the mark tells: cut, or no nonzero outside a part
tells_cut : (zero one : Bool) → mark_of zero one ≡ 2 → zero and one ≡ true
unfolding mark_of ◌and◌
tells_cut true true h = refl
tells_cut true false h = no_way (omega arith)
tells_cut false one h = no_way (omega arith)

tells_zero : (zero one : Bool) → mark_of zero one ≡ 0 → one ≡ false
unfolding mark_of
tells_zero true true h = no_way (omega arith)
tells_zero true false h = refl
tells_zero false one h = no_way (omega arith)

tells_one : (zero one : Bool) → mark_of zero one ≡ 1 → zero ≡ false
unfolding mark_of
tells_one true true h = no_way (omega arith)
tells_one true false h = no_way (omega arith)
tells_one false one h = refl

-- a line with mark cut is cut
pub split_mark_cut : (P : Pattern) (σ : Split) (l : ℕ) → split_mark P σ l ≡ 2 → is_cut P σ l ≡ true
unfolding split_mark is_cut
split_mark_cut P σ l h = tells_cut (holds P σ Zero l) (holds P σ One l) h

-- all nonzeros of a line with mark p are in p
pub split_mark_part :
    (P : Pattern) (σ : Split) (p : Part) (l t : ℕ) →
    t < P.size → on P l t ≡ true → split_mark P σ l ≡ part_number p → σ t ≡ p
unfolding split_mark
split_mark_part P σ Zero l t b h e = by_part (σ t) refl
  where
    by_part : (q : Part) → σ t ≡ q → σ t ≡ Zero
    by_part Zero d = d
    by_part One d =
        clash (holds_intro P σ One l t b h (same_of_eq One (σ t) d)) (tells_zero (holds P σ Zero l) (holds P σ One l) e)
split_mark_part P σ One l t b h e = by_part (σ t) refl
  where
    by_part : (q : Part) → σ t ≡ q → σ t ≡ One
    by_part Zero d =
        clash (holds_intro P σ Zero l t b h (same_of_eq Zero (σ t) d)) (tells_one (holds P σ Zero l) (holds P σ One l) e)
    by_part One d = d

-- the marking of a split, in the order of lines
unfoldable pub split_marks : Pattern → Split → List ℕ
split_marks P σ = stack (λ i. split_mark P σ (line_at P i)) (line_total P)

-- a line with nonzeros has the mark that the split gives it
pub split-marking :
    (P : Pattern) (σ : Split) (l : ℕ) →
    l < lines P → nonempty P l ≡ true → marking P (split_marks P σ) l ≡ split_mark P σ l
unfolding marking split_marks
split-marking P σ l b h =
    stack_mark (λ i. split_mark P σ (line_at P i)) (line_total P) (place P l) (place_below P l b h)
    ∙ ap (split_mark P σ) (at_place P l b h)

-- a nonzero taken by p is in p
pub split-takes :
    (P : Pattern) (σ : Split) → Inside P →
    (p : Part) (t : ℕ) → t < P.size → takes P (marking P (split_marks P σ)) p t ≡ true → σ t ≡ p
unfolding takes
split-takes P σ i p t b h =
    ⊎_elim
    (λ e. by_line (row_line P t) (row_line_in P t i b) (on_row P t) e)
    (λ e. by_line (column_line P t) (column_line_in P t i b) (on_column P t) e)
    (or_cases
    (eqb (marking P (split_marks P σ) (row_line P t)) (part_number p))
    (eqb (marking P (split_marks P σ) (column_line P t)) (part_number p))
    h)
  where
    by_line :
        (l : ℕ) → l < lines P → on P l t ≡ true →
        eqb (marking P (split_marks P σ) l) (part_number p) ≡ true → σ t ≡ p
    by_line l c o e =
        split_mark_part
        P
        σ
        p
        l
        t
        b
        o
        (sym (split-marking P σ l c (on-nonempty P l t b o)) ∙ eqb-true (marking P (split_marks P σ) l) (part_number p) e)

-- the marking of a split that meets both caps is valid
pub split-valid :
    (P : Pattern) (caps : Caps) (σ : Split) → Inside P → Meets P caps σ → valid P caps (marking P (split_marks P σ)) ≡ true
unfolding load
split-valid P caps σ i meets =
    is-valid
    P
    caps
    (marking P (split_marks P σ))
    (record {
      once = λ t b e. fails
          (takes P (marking P (split_marks P σ)) One t)
          (λ d. two_parts (sym (split-takes P σ i Zero t b e) ∙ split-takes P σ i One t b d));
      fits = λ p. omega (
        arith,
        part_fits P caps σ p meets,
        count_mono
            (takes P (marking P (split_marks P σ)) p)
            (λ t. same_part p (σ t))
            P.size
            (λ t b e. same_of_eq p (σ t) (split-takes P σ i p t b e)),
      );
    })

-- it cuts no more lines than the split
pub split-cuts : (P : Pattern) (σ : Split) → cuts (split_marks P σ) ≤ volume P σ
unfolding split_marks cut_at
split-cuts P σ =
    omega (
      arith,
      cuts_are (split_marks P σ),
      ap (count (cut_at (split_marks P σ))) (stack-length f (line_total P)),
      volume-is-cuts P σ,
      count_inj
          (cut_at (split_marks P σ))
          (is_cut P σ)
          (line_total P)
          (lines P)
          (line_at P)
          (record {
            lands = λ j b h. (line_at_lem P j b).inside;
            hits = λ j b h. split_mark_cut P σ (line_at P j) (sym (stack_mark f (line_total P) j b) ∙ eqb-true (mark_at (split_marks P σ) j) 2 h);
            apart = λ j l b c g h e. sym (line_at_lem P j b).there ∙ ap (place P) e ∙ (line_at_lem P l c).there;
          }),
    )
  where
    f : ℕ → ℕ
    f j = split_mark P σ (line_at P j)
