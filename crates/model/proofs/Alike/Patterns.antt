-- Patterns that agree in their nonzeros, as those of two lists that begin with the same bytes: they have the same lines, in the same order.
-- Assumes nothing.
use mathlib.Core.Bool.{Bool}
use mathlib.Core.List.{List}
use mathlib.Core.Path.{◌≡◌, refl, ◌∙◌, ap}
use Prim.Native.Nat.{ℕ, ◌+◌, ◌*◌, ◌<◌}
use native.Mathlib.Omega.{arith}
use lib.Dec.{eqb, ltb}
use lib.ListN.{get_or}
use Rattle.counting.specs.Sums.{sum, count, any}
use Rattle.counting.proofs.Joined.{or_eq}
use Rattle.counting.proofs.Summed.{sum_eq}
use Rattle.counting.proofs.Counted.{count_eq, any_eq}
use Rattle.model.specs.Pattern.{Pattern, entry_bytes, row_place, column_place, low_in, high_in, number_in, row_in, column_in, pattern_of, lines, row_line, column_line, on, line_count, nonempty, line_total}
use Rattle.model.specs.Marking.{mark_at, marking, precedes, place}

-- the same m, n and N, and each nonzero in the same row and column
pub record Alike (P Q : Pattern) : Type 0 where
  pub m_same : P.m ≡ Q.m
  pub n_same : P.n ≡ Q.n
  pub size_same : P.size ≡ Q.size
  pub row_same : (t : ℕ) → t < P.size → P.row t ≡ Q.row t
  pub column_same : (t : ℕ) → t < P.size → P.column t ≡ Q.column t

-- a pattern and itself
pub alike_self : (P : Pattern) → Alike P P
alike_self P =
    record {
      m_same = refl;
      n_same = refl;
      size_same = refl;
      row_same = λ t b. refl;
      column_same = λ t b. refl;
    }

-- the patterns of two lists that begin with the same bytes
pub alike_lists :
    (m n nonzeros : ℕ) (list slice : List ℕ) →
    ((i : ℕ) → i < entry_bytes * nonzeros → get_or slice i 0 ≡ get_or list i 0) →
    Alike (pattern_of m n nonzeros slice) (pattern_of m n nonzeros list)
unfolding pattern_of low_in high_in number_in row_in column_in
alike_lists m n nonzeros list slice h =
    record {
      m_same = refl;
      n_same = refl;
      size_same = refl;
      row_same = λ t b. same_number (row_place t) (omega arith);
      column_same = λ t b. same_number (column_place t) (omega arith);
    }
  where
    same_number : (at : ℕ) → at + 1 < entry_bytes * nonzeros → number_in slice at ≡ number_in list at
    same_number at b = omega (arith, h at (omega arith), h (at + 1) b)

-- counts and tests up to bounds that are equal
pub sums_agree : (f g : ℕ → ℕ) {a b : ℕ} → a ≡ b → ((t : ℕ) → t < a → f t ≡ g t) → sum f a ≡ sum g b
sums_agree f g {a} e h = sum_eq f g a h ∙ ap (sum g) e

pub counts_agree : (p q : ℕ → Bool) {a b : ℕ} → a ≡ b → ((t : ℕ) → t < a → p t ≡ q t) → count p a ≡ count q b
counts_agree p q {a} e h = count_eq p q a h ∙ ap (count q) e

pub anys_agree : (p q : ℕ → Bool) {a b : ℕ} → a ≡ b → ((t : ℕ) → t < a → p t ≡ q t) → any p a ≡ any q b
anys_agree p q {a} e h = any_eq p q a h ∙ ap (any q) e

module _ {P Q : Pattern} (a : Alike P Q) where
  -- as many lines
  pub lines_same : lines P ≡ lines Q
  unfolding lines
  lines_same = omega (arith, a.m_same, a.n_same)

  -- the lines of each nonzero
  pub row_line_same : (t : ℕ) → t < P.size → row_line P t ≡ row_line Q t
  unfolding row_line
  row_line_same t b = a.row_same t b

  pub column_line_same : (t : ℕ) → t < P.size → column_line P t ≡ column_line Q t
  unfolding column_line
  column_line_same t b = omega (arith, a.m_same, a.column_same t b)

  -- each line holds the same nonzeros
  pub on_same : (l t : ℕ) → t < P.size → on P l t ≡ on Q l t
  unfolding on
  on_same l t b = or_eq (ap (eqb l) (row_line_same t b)) (ap (eqb l) (column_line_same t b))

  -- so as many
  pub count_same : (l : ℕ) → line_count P l ≡ line_count Q l
  unfolding line_count
  count_same l = counts_agree (on P l) (on Q l) a.size_same (on_same l)

  pub nonempty_same : (l : ℕ) → nonempty P l ≡ nonempty Q l
  unfolding nonempty
  nonempty_same l = ap (ltb 0) (count_same l)

  pub total_same : line_total P ≡ line_total Q
  unfolding line_total
  total_same = counts_agree (nonempty P) (nonempty Q) lines_same (λ l b. nonempty_same l)

  -- the lines stand in the same order
  pub precedes_same : (j l : ℕ) → precedes P j l ≡ precedes Q j l
  unfolding precedes
  precedes_same j l = rw (count_same j, count_same l)

  pub place_same : (l : ℕ) → place P l ≡ place Q l
  unfolding place
  place_same l = counts_agree (λ j. precedes P j l) (λ j. precedes Q j l) lines_same (λ j b. precedes_same j l)

  -- so a trail marks the same lines
  pub marking_same : (τ : List ℕ) (l : ℕ) → marking P τ l ≡ marking Q τ l
  unfolding marking
  marking_same τ l = ap (mark_at τ) (place_same l)
