-- A matching of the conflicts with a cover that is no larger: such a matching has L4 columns. It starts with no rows, and a row that finds a column adds one.
-- Assumes nothing.
use mathlib.Core.Bool.{Bool, true, false, not}
use mathlib.Core.Path.{◌≡◌, refl, sym, ◌∙◌, ap}
use mathlib.Core.Logic.{⊎_elim}
use Prim.Native.Nat.{ℕ, suc, ◌+◌, ◌-◌, ◌≤◌, ◌<◌}
use native.Mathlib.Nat.{eq-or-lt_of_le, le_of_suc-le-suc}
use native.Mathlib.Omega.{arith}
use lib.Dec.{eqb, ltb}
use borrow.Author.Tests.{eqb-true, eq-eqb, lt-ltb, le-ltb, not-true}
use Rattle.counting.specs.Tests.{◌and◌, ◌or◌, pick, bit}
use Rattle.counting.specs.Sums.{count}
use Rattle.counting.proofs.Joined.{no_way, clash, and_left, and_right, or_left, or_right, or_cases, pick_true, pick-false}
use Rattle.counting.proofs.Summed.{sum_more}
use Rattle.counting.proofs.Counted.{count_mono, count_eq, count_none, count-one, count-split}
use Rattle.model.specs.Pattern.{Pattern, Inside, lines, row_line, column_line}
use Rattle.model.specs.Marking.{Marking}
use Rattle.model.specs.Bound.{conflict, L4}
use Rattle.model.proofs.Bound.Cover.{cover_bounds}
use Rattle.model.proofs.Matching.Mates.{Matching, Covers, joined, matched, joined_by, no_mates_lem}
use Rattle.model.proofs.Matching.Below.{matching_below}

-- a matching of the conflicts of the first i rows, with a cover of those rows' conflicts that is no larger
pub record Greatest (P : Pattern) (μ : Marking) (i : ℕ) (mate : ℕ → ℕ) : Type 0 where
  pub matching : Matching P μ mate
  pub below : (j r : ℕ) → j < P.n → mate j ≡ suc r → r < i
  pub rows : ℕ → Bool
  pub columns : ℕ → Bool
  pub cover : Covers P μ i rows columns
  pub small : count rows P.m + count columns P.n ≤ matched P mate

-- rows and columns as one set of lines
unfoldable lines_of : Pattern → (ℕ → Bool) → (ℕ → Bool) → ℕ → Bool
lines_of P rows columns l = pick (ltb l P.m) (rows l) (columns (l - P.m))

-- a row is in the set as it is among the rows
lines-row :
    (P : Pattern) (rows columns : ℕ → Bool) (i : ℕ) → i < P.m → lines_of P rows columns i ≡ rows i
unfolding lines_of
lines-row P rows columns i b = pick_true (rows i) (columns (i - P.m)) (lt-ltb i P.m b)

-- a column is in the set as it is among the columns
lines_column :
    (P : Pattern) (rows columns : ℕ → Bool) (j : ℕ) → lines_of P rows columns (P.m + j) ≡ columns j
unfolding lines_of
lines_column P rows columns j =
    let e : P.m + j - P.m ≡ j = omega arith in
    pick-false (rows (P.m + j)) (columns (P.m + j - P.m)) (le-ltb (P.m + j) P.m (omega arith)) ∙ ap columns e

-- they are as many lines as rows and columns
lines-count :
    (P : Pattern) (rows columns : ℕ → Bool) →
    count (lines_of P rows columns) (lines P) ≡ count rows P.m + count columns P.n
unfolding lines
lines-count P rows columns =
    omega (
      arith,
      sum_more (λ l. bit (lines_of P rows columns l)) P.m P.n,
      count_eq (lines_of P rows columns) rows P.m (λ i b. lines-row P rows columns i b),
      count_eq
          (λ j. lines_of P rows columns (P.m + j))
          columns
          P.n
          (λ j b. lines_column P rows columns j),
    )

-- they hold a line of each conflict
lines_cover :
    (P : Pattern) (μ : Marking) (rows columns : ℕ → Bool) (t : ℕ) →
    Inside P → Covers P μ P.m rows columns → t < P.size → conflict P μ t ≡ true →
    lines_of P rows columns (row_line P t) or lines_of P rows columns (column_line P t) ≡ true
unfolding row_line column_line
lines_cover P μ rows columns t inside cover b e =
    ⊎_elim
    (λ h. or_left _ (lines-row P rows columns (P.row t) (inside.row-in t b) ∙ h))
    (λ h. or_right _ (lines_column P rows columns (P.column t) ∙ h))
    (or_cases
    (rows (P.row t))
    (columns (P.column t))
    (cover.covers (P.row t) (P.column t) (inside.row-in t b) (joined_by P μ t b e)))

-- once all rows are in, the matching has L4 columns
pub greatest-is-L4 :
    (P : Pattern) (μ : Marking) (mate : ℕ → ℕ) →
    Inside P → Greatest P μ P.m mate → matched P mate ≡ L4 P μ
greatest-is-L4 P μ mate inside g =
    let C = lines_of P g.rows g.columns in
    omega (
      arith,
      matching_below P μ mate inside g.matching,
      cover_bounds P μ C inside (λ t b e. lines_cover P μ g.rows g.columns t inside g.cover b e),
      lines-count P g.rows g.columns,
      g.small,
    )

-- with no rows in, no column is matched and the cover is empty
pub greatest-none : (P : Pattern) (μ : Marking) → Greatest P μ 0 (λ j. 0)
greatest-none P μ =
    record {
      matching = no_mates_lem P μ;
      below = λ j r b e. no_way (omega arith);
      rows = λ r. false;
      columns = λ j. false;
      cover = record { covers = λ r j b e. no_way (omega arith) };
      small = omega (
        arith,
        count_none (λ r. false) P.m (λ r b. refl),
        count_none (λ j. false) P.n (λ j b. refl),
      );
    }

-- one row more in the cover makes it at most one larger
one_more : (rows : ℕ → Bool) (i m : ℕ) → count (λ r. rows r or eqb i r) m ≤ count rows m + 1
one_more rows i m =
    omega (
      arith,
      count-split (λ r. rows r or eqb i r) rows m,
      count_mono (λ r. (rows r or eqb i r) and rows r) rows m (λ r b e. and_right (rows r or eqb i r) (rows r) e),
      count-one
          (λ r. (rows r or eqb i r) and not (rows r))
          m
          (λ r s b c e f. sym (same r e) ∙ same s f),
    )
  where
    same : (r : ℕ) → (rows r or eqb i r) and not (rows r) ≡ true → i ≡ r
    same r e =
        ⊎_elim
        (λ h. clash h (not-true (rows r) (and_right (rows r or eqb i r) _ e)))
        (λ h. eqb-true i r h)
        (or_cases (rows r) (eqb i r) (and_left _ _ e))

-- a row that finds a column: the matching is one larger, and the row goes into the cover
pub start_succeeds :
    (P : Pattern) (μ : Marking) (i : ℕ) (mate mate' : ℕ → ℕ) →
    Greatest P μ i mate → Matching P μ mate' →
    ((j r : ℕ) → j < P.n → mate' j ≡ suc r → r < suc i) →
    matched P mate' ≡ matched P mate + 1 → Greatest P μ (suc i) mate'
start_succeeds P μ i mate mate' g M below' more =
    record {
      matching = M;
      below = below';
      rows = λ r. g.rows r or eqb i r;
      columns = g.columns;
      cover = record { covers = covers' };
      small = omega (arith, one_more g.rows i P.m, g.small);
    }
  where
    covers' : (r j : ℕ) → r < suc i → joined P μ r j ≡ true → g.rows r or eqb i r or g.columns j ≡ true
    covers' r j b e =
        ⊎_elim
        (λ q. or_left _ (or_right (g.rows r) (eq-eqb i r (sym q))))
        (λ l. ⊎_elim
        (λ h. or_left _ (or_left _ h))
        (λ h. or_right _ h)
        (or_cases (g.rows r) (g.columns j) (g.cover.covers r j l e)))
        (eq-or-lt_of_le (le_of_suc-le-suc b))
