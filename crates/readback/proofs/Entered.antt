-- A table of entries inside the matrix, and one entry more.
-- Assumes nothing.
use mathlib.Core.Bool.{true, false, not}
use mathlib.Core.List.{List}
use mathlib.Core.Path.{◌≡◌, sym, ◌∙◌, ap}
use Prim.Native.Nat.{ℕ, ◌+◌, ◌*◌, ◌/◌, ◌%◌, ◌≤◌, ◌<◌}
use native.Mathlib.Nat.{div-add-mod', mod-lt}
use native.Mathlib.Omega.{arith}
use lib.Dec.{eqb}
use lib.ListN.{length, get_or, set, length-set}
use lib.Seq.{get_or-set_same, get_or-set_other}
use borrow.Author.Tests.{eqb-true, eqb-false}
use Rattle.counting.specs.Tests.{pick}
use Rattle.counting.specs.Sums.{count}
use Rattle.counting.proofs.Joined.{by_test, clash, pick_true, pick-false}
use Rattle.counting.proofs.Counted.{count_none}
use Rattle.model.specs.Limits.{line_limit}
use Rattle.texts.specs.Entries.{cell_room, no_cells, is_given}
use Rattle.counting.proofs.Passed.{count_added}
use Rattle.readback.proofs.Table.{none-length, none-there, given_mark, not-given, cell_row, cell_column, mark_again}

-- a cell of an m by n matrix
pub record CellIn (m n p : ℕ) : Type 0 where
  pub row : p / line_limit < m
  pub column : p % line_limit < n

pub cell_in : (m n i j : ℕ) → n ≤ line_limit → i < m → j < n → CellIn m n (line_limit * i + j)
cell_in m n i j columns row column =
    record {
      row = omega (arith, cell_row i j (omega arith));
      column = omega (arith, cell_column i j (omega arith));
    }

-- it comes before the rows past the last
pub cell_before_lem : {m n p : ℕ} → CellIn m n p → p < line_limit * m
cell_before_lem {m} {n} {p} c = omega (arith, c.row, div-add-mod' p line_limit, mod-lt p {m = line_limit} (omega arith))

-- so many cells of an m by n matrix are given, each with mark 1 or 2
pub record Entered (m n : ℕ) (cells : List ℕ) (size : ℕ) : Type 0 where
  pub whole : length cells ≡ cell_room
  pub inside : (p : ℕ) → is_given cells p ≡ true → CellIn m n p
  pub mark-in : (p : ℕ) → get_or cells p 0 ≤ 2
  pub total : count (is_given cells) (line_limit * m) ≡ size

none-given : (p : ℕ) → is_given no_cells p ≡ false
none-given p = not-given no_cells p (none-there p)

pub entered-none : (m n : ℕ) → Entered m n no_cells 0
entered-none m n =
    record {
      whole = none-length;
      inside = λ p e. clash e (none-given p);
      mark-in = λ p. omega (arith, none-there p);
      total = count_none (is_given no_cells) (line_limit * m) (λ p b. none-given p);
    }

-- one cell more
module _
    {m n : ℕ} {cells : List ℕ} {size : ℕ} (e : Entered m n cells size) (p mark : ℕ) (rows : m ≤ line_limit)
    (in-matrix : CellIn m n p) (free : is_given cells p ≡ false) (some : 1 ≤ mark) (few : mark ≤ 2) where
  abbrev new : List ℕ
  new = set cells p mark

  here : get_or new p 0 ≡ mark
  here = get_or-set_same cells p mark 0 (omega (arith, e.whole, cell_before_lem in-matrix))

  elsewhere : (q : ℕ) → (q ≡ p → ⊥) → is_given new q ≡ is_given cells q
  unfolding is_given
  elsewhere q d = ap (λ b. not (eqb b 0)) (get_or-set_other cells p q mark 0 d)

  cell_more : Entered m n (set cells p mark) (size + 1)
  cell_more =
      record {
        whole = length-set cells p mark ∙ e.whole;
        inside =
            λ q g. by_test
            (eqb q p)
            (λ z. rw (eqb-true q p z) in-matrix)
            (λ z. e.inside q (sym (elsewhere q (eqb-false q p z)) ∙ g));
        mark-in =
            λ q. by_test
            (eqb q p)
            (λ z. omega (arith, ap (λ k. get_or new k 0) (eqb-true q p z), here))
            (λ z. omega (arith, get_or-set_other cells p q mark 0 (eqb-false q p z), e.mark-in q));
        total =
            count_added
            (is_given cells)
            (is_given new)
            (line_limit * m)
            p
            elsewhere
            (cell_before_lem in-matrix)
            free
            (given_mark new p (λ z. omega (arith, here)))
            ∙ ap (λ k. k + 1) e.total;
      }

-- an entry more: its own cell and the other, which may be the same
pub entered-more :
    {m n : ℕ} {cells : List ℕ} {size : ℕ} → Entered m n cells size → (p q mark : ℕ) → m ≤ line_limit → CellIn m n p → CellIn m n q →
    is_given cells p ≡ false → is_given cells q ≡ false → 1 ≤ mark → mark ≤ 2 →
    Entered m n (set (set cells p mark) q mark) (size + pick (eqb q p) 1 2)
entered-more {m} {n} {cells} {size} e p q mark rows p-in q-in p-free q-free some few =
    let first = cell_more e p mark rows p-in p-free some few in
    by_test
    (eqb q p)
    (λ z. let same = eqb-true q p z in
    rw (pick_true {A = ℕ} 1 2 z, same, mark_again cells p mark (omega (arith, e.whole, cell_before_lem p-in))) first)
    (λ z. let apart = eqb-false q p z in
    let both : size + 1 + 1 ≡ size + 2 = omega arith in
    rw
    (pick-false {A = ℕ} 1 2 z, sym both)
    (cell_more first q mark rows q-in (elsewhere e p mark rows p-in p-free some few q apart ∙ q-free) some few))
