-- The arrays that the code is given hold what the pattern and the marking say: the search over them is the search over the conflicts.
-- Assumes nothing.
use mathlib.Core.Bool.{false}
use mathlib.Core.List.{List, []}
use mathlib.Core.Path.{◌≡◌, refl, sym, ◌∙◌, ap, fun_ext}
use Prim.Native.Nat.{ℕ, ◌+◌, ◌-◌, ◌≤◌, ◌<◌}
use native.Mathlib.Omega.{arith}
use lib.Dec.{eqb, ltb}
use lib.ListN.{get_or}
use borrow.Author.Tests.{eq-eqb, ne_eqb, ltb-true, ltb-false, lt-ltb}
use Rattle.counting.proofs.Joined.{no_way, by_test, and_all, and_passed, and_fails_right}
use Rattle.model.specs.declared.Part.TheVariants.{Zero, One}
use Rattle.model.specs.Pattern.{Pattern, Inside, pattern_of, lines, row_line, column_line, column_in}
use Rattle.model.specs.Marking.{Marking}
use Rattle.model.specs.Bound.{leans, conflict}
use Rattle.model.specs.Matching.{columns_where, conflict_of, conflict_columns, starts_from, matching_search}
use Rattle.model.proofs.Matching.Columns.{where_eq, where_none, where_later, where_sooner}
use Rattle.model.proofs.Matching.Searched.{starts_depth}
use Rattle.matching.specs.Augmenting.{ground_of, different, at_odds, columns_from, columns_in, searched, side_room}
use Rattle.matching.specs.Starts.{row_start}
use Rattle.matching.proofs.Rows.Counts.{start_most}
use Rattle.matching.proofs.Visits.Row.{row_begins, row-outside}
use Rattle.matching.proofs.Rows.Sorted.{Sorted, Rising, sorted_rising, start_mono, between_below, between-row}

-- the list's pattern, whose rows rise, its rows' starts, and what each line leans to
pub record Arrays (m n nonzeros : ℕ) (list lean starts : List ℕ) (μ : Marking) : Type 0 where
  pub few_rows : m ≤ side_room
  pub few_columns : n ≤ side_room
  pub inside : Inside (pattern_of m n nonzeros list)
  pub rising : Rising (pattern_of m n nonzeros list)
  pub starts_are : (i : ℕ) → i ≤ side_room → get_or starts i 0 ≡ row_start (pattern_of m n nonzeros list) i
  pub zero_are :
      (l : ℕ) → l < lines (pattern_of m n nonzeros list) →
      eqb (get_or lean l 0) 0 ≡ leans (pattern_of m n nonzeros list) μ Zero l
  pub one_are :
      (l : ℕ) → l < lines (pattern_of m n nonzeros list) →
      eqb (get_or lean l 0) 1 ≡ leans (pattern_of m n nonzeros list) μ One l

module _ (m n nonzeros : ℕ) (list lean starts : List ℕ) (μ : Marking) (a : Arrays m n nonzeros list lean starts μ) where
  abbrev P : Pattern
  P = pattern_of m n nonzeros list

  sorted : Sorted P
  sorted = sorted_rising P a.rising

  -- row and column of a nonzero are at odds where it is a conflict
  odds_conflict : (t : ℕ) → t < nonzeros → at_odds lean m (P.row t) (column_in list t) ≡ conflict P μ t
  unfolding at_odds different conflict row_line column_line lines pattern_of
  odds_conflict t b =
      let row : P.row t < m + n = omega (arith, a.inside.row-in t b) in
      let column : m + P.column t < m + n = omega (arith, a.inside.column-in t b) in
      and_passed
      _
      (lt-ltb (column_in list t) side_room (omega (arith, a.inside.column-in t b, a.few_columns)))
      ∙ rw (a.zero_are (P.row t) row, a.one_are (P.row t) row, a.zero_are (m + P.column t) column, a.one_are (m + P.column t) column) refl

  -- a nonzero before the start of row i, or from that of the next row on, is no conflict of row i
  before-none : (i t : ℕ) → t < nonzeros → t < row_start P i → conflict_of P μ i t ≡ false
  unfolding conflict_of pattern_of
  before-none i t b h =
      and_fails_right
      (conflict P μ t)
      (ne_eqb (P.row t) i (λ q. no_way (omega (arith, sorted.after t b, ap (row_start P) q))))

  after_none : (i t : ℕ) → t < nonzeros → row_start P (i + 1) ≤ t → conflict_of P μ i t ≡ false
  unfolding conflict_of pattern_of
  after_none i t b h =
      and_fails_right
      (conflict P μ t)
      (ne_eqb (P.row t) i (λ q. no_way (omega (arith, sorted.before t b, ap (λ (x : ℕ). row_start P (x + 1)) q))))

  -- between them it is one where the row is at odds with its column
  between_odds :
      (i t : ℕ) → row_start P i ≤ t → t < row_start P (i + 1) →
      conflict_of P μ i t ≡ at_odds lean m i (column_in list t)
  unfolding conflict_of pattern_of
  between_odds i t from to =
      let r = between-row P i t sorted from to in
      and_all (conflict P μ t) (eqb (P.row t) i) (eq-eqb (P.row t) i r)
      ∙ sym (odds_conflict t (between_below P i t to))
      ∙ ap (λ (x : ℕ). at_odds lean m x (column_in list t)) r

  -- the conflict columns of row i are among its own nonzeros
  own_columns :
      (i : ℕ) →
      conflict_columns P μ i ≡ columns_from (ground_of lean m list starts) i (row_start P (i + 1) - row_start P i) (row_start P i)
  unfolding conflict_columns columns_from pattern_of
  own_columns i =
      let lo = row_start P i in
      let hi = row_start P (i + 1) in
      let rise = start_mono P i (i + 1) (omega arith) in
      let most = start_most P (i + 1) in
      let all : nonzeros ≡ lo + (hi - lo + (nonzeros - hi)) = omega (arith, rise, most) in
      let here : 0 + lo ≡ lo = omega arith in
      ap (λ (x : ℕ). columns_where (conflict_of P μ i) (column_in list) x 0) all
      ∙ where_later
      (conflict_of P μ i)
      (column_in list)
      lo
      (hi - lo + (nonzeros - hi))
      0
      (λ s b c. before-none i s (omega (arith, rise, most)) (omega arith))
      ∙ ap (columns_where (conflict_of P μ i) (column_in list) (hi - lo + (nonzeros - hi))) here
      ∙ where_sooner
      (conflict_of P μ i)
      (column_in list)
      (hi - lo)
      (nonzeros - hi)
      lo
      (λ s b c. after_none i s (omega (arith, rise, most)) (omega (arith, rise)))
      ∙ where_eq
      (conflict_of P μ i)
      (λ t. at_odds lean m i (column_in list t))
      (column_in list)
      (column_in list)
      (hi - lo)
      lo
      (λ s b c. between_odds i s b (omega (arith, rise)))
      (λ s b c. refl)

  -- a row outside has none
  outside-none : (i : ℕ) → m ≤ i → conflict_columns P μ i ≡ []
  unfolding conflict_columns conflict_of pattern_of
  outside-none i h =
      where_none
      (conflict_of P μ i)
      (column_in list)
      nonzeros
      0
      (λ s b c. and_fails_right
      (conflict P μ s)
      (ne_eqb (P.row s) i (λ q. no_way (omega (arith, a.inside.row-in s (omega arith))))))

  -- the columns of each row, by the arrays
  columns_are : (i : ℕ) → columns_in (ground_of lean m list starts) i ≡ conflict_columns P μ i
  columns_are i =
      let G = ground_of lean m list starts in
      by_test
      (ltb i side_room)
      (λ e. let b = ltb-true i side_room e in
      row_begins
      G
      i
      (row_start P i)
      (row_start P (i + 1))
      b
      (sym (a.starts_are i (omega arith)))
      (sym (a.starts_are (i + 1) (omega arith)))
      ∙ sym (own_columns i))
      (λ e. row-outside G i e ∙ sym (outside-none i (omega (arith, ltb-false i side_room e, a.few_rows))))

  -- the search over the arrays is the search of the pattern and the marking
  pub searched-is : searched (ground_of lean m list starts) ≡ matching_search P μ
  unfolding searched matching_search pattern_of
  searched-is =
      ap (λ (columns : ℕ → List ℕ). starts_from columns side_room m) (fun_ext columns_are)
      ∙ starts_depth P μ a.inside side_room a.few_columns m (omega arith)
