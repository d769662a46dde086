-- Laws of legal marks, one mark at a time.
-- Assumes nothing.
use mathlib.Core.Bool.{Bool, true, false, not}
use mathlib.Core.List.{List}
use mathlib.Core.Path.{◌≡◌, refl, sym, ◌∙◌, ap}
use Prim.Native.Nat.{ℕ, zero, suc, ◌+◌, ◌≤◌, ◌<◌}
use native.Mathlib.Numerals.{add-one}
use native.Mathlib.Omega.{arith}
use lib.Dec.{eqb, leb}
use borrow.Author.Tests.{le-leb, lt-leb, eqb-true, eqb-false}
use Rattle.counting.specs.Tests.{◌and◌, ◌or◌}
use Rattle.counting.proofs.Joined.{no_way, clash, by_test, and_intro, and_fails_left, and_fails_right}
use Rattle.trail.specs.Trail.{mark_or, is_part, gives_part_in, one_at}
use Rattle.trail.proofs.Methods.{gives_none, gives_more}
use Rattle.model.specs.State.{stack, are_marks, ones_allowed}
use Rattle.marking.proofs.Trails.{one_at-is}
use Rattle.state.specs.Legal.{marks_legal, one_denied, ones_legal}

-- a test of the first marks that holds of one mark more just where a test of that mark passes too fails behind a mark that fails it
falls_behind :
    (f : ℕ → Bool) (g : ℕ → Bool) → ((i : ℕ) → f (suc i) ≡ g i and f i) →
    (i end : ℕ) → i < end → g i ≡ false → f end ≡ false
falls_behind f g step i zero b h = no_way (omega arith)
falls_behind f g step i (suc d) b h =
    step d
    ∙ by_test
    (eqb i d)
    (λ e. and_fails_left (f d) (ap g (sym (eqb-true i d e)) ∙ h))
    (λ e. and_fails_right (g d) (falls_behind f g step i d (omega (arith, eqb-false i d e)) h))

-- and passes for one mark more that passes it
holds_more :
    (f : ℕ → Bool) (g : ℕ → Bool) → ((i : ℕ) → f (suc i) ≡ g i and f i) →
    (i : ℕ) → f i ≡ true → g i ≡ true → f (i + 1) ≡ true
holds_more f g step i h d = ap f (add-one i) ∙ step i ∙ and_intro d h

legal_step : (marks : List ℕ) (i : ℕ) → marks_legal marks (suc i) ≡ leb (mark_or 0 marks i) 2 and marks_legal marks i
unfolding marks_legal are_marks stack
legal_step marks i = refl

pub legal_none : (marks : List ℕ) → marks_legal marks 0 ≡ true
unfolding marks_legal are_marks stack
legal_none marks = refl

pub legal_more : (marks : List ℕ) (i : ℕ) → marks_legal marks i ≡ true → mark_or 0 marks i ≤ 2 → marks_legal marks (i + 1) ≡ true
legal_more marks i h b = holds_more (marks_legal marks) (λ j. leb (mark_or 0 marks j) 2) (legal_step marks) i h (le-leb (mark_or 0 marks i) 2 b)

pub legal_fails : (marks : List ℕ) (i end : ℕ) → i < end → 2 < mark_or 0 marks i → marks_legal marks end ≡ false
legal_fails marks i end b h =
    falls_behind (marks_legal marks) (λ j. leb (mark_or 0 marks j) 2) (legal_step marks) i end b (lt-leb (mark_or 0 marks i) 2 h)

denied_passes : (allowed one : Bool) → not allowed and one ≡ false → not one or allowed ≡ true
unfolding ◌and◌ ◌or◌
denied_passes true true h = refl
denied_passes true false h = refl
denied_passes false true h = clash refl h
denied_passes false false h = refl

denied_fails : (allowed one : Bool) → not allowed and one ≡ true → not one or allowed ≡ false
unfolding ◌and◌ ◌or◌
denied_fails true one h = clash h refl
denied_fails false true h = refl
denied_fails false false h = clash h refl

or-none : (a : Bool) → a or false ≡ a
unfolding ◌or◌
or-none true = refl
or-none false = refl

or-moved : (a b c : Bool) → a or (b or c) ≡ b or (a or c)
unfolding ◌or◌
or-moved true true c = refl
or-moved true false c = refl
or-moved false b c = refl

-- mark 1 may come first or not
module _ (first : Bool) where
  -- a mark is allowed
  allowed_at : List ℕ → ℕ → Bool
  allowed_at marks i = not (eqb (mark_or 0 marks i) 1) or one_at first marks i

  ones_step : (marks : List ℕ) (i : ℕ) → ones_legal first marks (suc i) ≡ allowed_at marks i and ones_legal first marks i
  unfolding ones_legal ones_allowed stack allowed_at
  ones_step marks i =
      ap (λ (may : Bool). (not (eqb (mark_or 0 marks i) 1) or may) and ones_legal first marks i) (sym (one_at-is first marks i))

  pub ones_none : (marks : List ℕ) → ones_legal first marks 0 ≡ true
  unfolding ones_legal ones_allowed stack
  ones_none marks = refl

  pub ones_more :
      (marks : List ℕ) (i : ℕ) (allowed : Bool) → ones_legal first marks i ≡ true → allowed ≡ one_at first marks i →
      one_denied (mark_or 0 marks i) allowed ≡ false → ones_legal first marks (i + 1) ≡ true
  unfolding one_denied allowed_at
  ones_more marks i allowed h e d =
      holds_more
      (ones_legal first marks)
      (allowed_at marks)
      (ones_step marks)
      i
      h
      (ap (λ (p : Bool). not (eqb (mark_or 0 marks i) 1) or p) (sym e) ∙ denied_passes allowed (eqb (mark_or 0 marks i) 1) d)

  pub ones_fail :
      (marks : List ℕ) (i end : ℕ) (allowed : Bool) → i < end → allowed ≡ one_at first marks i →
      one_denied (mark_or 0 marks i) allowed ≡ true → ones_legal first marks end ≡ false
  unfolding one_denied allowed_at
  ones_fail marks i end allowed b e d =
      falls_behind
      (ones_legal first marks)
      (allowed_at marks)
      (ones_step marks)
      i
      end
      b
      (ap (λ (p : Bool). not (eqb (mark_or 0 marks i) 1) or p) (sym e) ∙ denied_fails allowed (eqb (mark_or 0 marks i) 1) d)

  -- where mark 1 is allowed at the first index, and behind one mark more
  pub one_at-first : (marks : List ℕ) → first ≡ one_at first marks 0
  unfolding one_at
  one_at-first marks = sym (ap (λ (part : Bool). first or part) (gives_none marks) ∙ or-none first)

  pub one_at-more :
      (marks : List ℕ) (i : ℕ) (allowed : Bool) → allowed ≡ one_at first marks i →
      is_part (mark_or 0 marks i) or allowed ≡ one_at first marks (i + 1)
  unfolding one_at
  one_at-more marks i allowed e =
      ap (λ (x : Bool). is_part (mark_or 0 marks i) or x) e
      ∙ or-moved (is_part (mark_or 0 marks i)) first (gives_part_in marks i)
      ∙ ap (λ (part : Bool). first or part) (sym (gives_more marks i))
