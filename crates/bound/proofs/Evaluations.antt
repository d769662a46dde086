-- What an accepted list gives: room for its lines, its rows in order, and a marking by its marks by line.
-- Assumes nothing.
use mathlib.Core.Bool.{true}
use mathlib.Core.List.{List}
use mathlib.Core.Path.{◌≡◌, ◌∙◌, ap}
use mathlib.Core.Logic.{⊎_elim}
use Prim.Native.Nat.{ℕ, suc, ◌+◌, ◌≤◌, ◌<◌}
use native.Mathlib.Omega.{arith}
use lib.Dec.{eqb, ltb}
use lib.ListN.{length, get_or}
use borrow.Author.Tests.{ltb-true, eqb-true}
use Rattle.counting.specs.Tests.{◌and◌}
use Rattle.counting.proofs.Joined.{or_cases, and_left}
use Rattle.trail.specs.Trail.{mark_room}
use Rattle.model.specs.Refusal.{accepted}
use Rattle.model.specs.Limits.{line_room}
use Rattle.model.specs.Pattern.{pattern_of, lines, row_in, column_in}
use Rattle.model.specs.Marking.{place, marking}
use Rattle.model.specs.State.{array_of}
use Rattle.model.specs.Calls.{rises, list_verdict}
use Rattle.model.proofs.Theorems.Accepted.{list_accepted, accepted_inside}
use Rattle.model.proofs.Theorems.Thin.{line_thin}
use Rattle.model.proofs.Theorems.OfList.{lines_of}
use Rattle.pattern.specs.Room.{within}
use Rattle.pattern.proofs.Within.{within_all}
use Rattle.matching.specs.Starts.{side_room, row_start}
use Rattle.marking.specs.Marks.{mark_by, mark_for}
use Rattle.marking.proofs.Ordered.{mark_first}
use Rattle.marking.proofs.Marked.{mark_by-is}
use Rattle.weighing.specs.Cells.{marking_in}
use Rattle.weighing.proofs.Cells.{marking_in_lem}
use Rattle.bound.specs.Evaluated.{Listed, Placed}

-- there is room for every line of an accepted list
pub listed_few : {m n nonzeros : ℕ} {list starts : List ℕ} → Listed m n nonzeros list starts → m + n ≤ line_room
listed_few k = omega (arith, k.rows_small, k.columns_small)

-- the marks by line are those of the marking
pub by_line :
    (m n nonzeros : ℕ) (list places marks entries : List ℕ) (len total : ℕ) → total ≡ within (m + n) → m + n ≤ line_room →
    (length entries ≡ line_room) × ((l : ℕ) → l < line_room → get_or entries l 0 ≡ mark_for total places marks len l) →
    Placed (pattern_of m n nonzeros list) places →
    (τ : List ℕ) → length τ ≤ mark_room → marks ≡ array_of τ → len ≡ length τ →
    (l : ℕ) → l < lines (pattern_of m n nonzeros list) →
    marking_in entries l ≡ marking (pattern_of m n nonzeros list) τ l
unfolding marking
by_line m n nonzeros list places marks entries len total et few e k τ short em el l b =
    let P = pattern_of m n nonzeros list in
    let c : l < total = omega (arith, et, within_all (m + n) few, lines_of m n nonzeros list) in
    let d : l < line_room = omega (arith, et, within_all (m + n) few) in
    marking_in_lem entries l d
    ∙ e.1 l d
    ∙ mark_first total places marks len l c
    ∙ ap (mark_by marks len) (k.placed l b)
    ∙ ap (λ (xs : List ℕ). mark_by xs len (place P l)) em
    ∙ ap (λ (d : ℕ). mark_by (array_of τ) d (place P l)) el
    ∙ mark_by-is τ (place P l) short

-- an accepted list, with where its rows start
rises_rows : (list : List ℕ) (t : ℕ) → rises list (suc t) ≡ true → row_in list t ≤ row_in list (suc t)
unfolding rises
rises_rows list t h =
    ⊎_elim
    (λ e. omega (arith, ltb-true (row_in list t) (row_in list (suc t)) e))
    (λ e. omega (
      arith,
      eqb-true
          (row_in list t)
          (row_in list (suc t))
          (and_left
          (eqb (row_in list t) (row_in list (suc t)))
          (ltb (column_in list t) (column_in list (suc t)))
          e),
    ))
    (or_cases
    (ltb (row_in list t) (row_in list (suc t)))
    (eqb (row_in list t) (row_in list (suc t)) and ltb (column_in list t) (column_in list (suc t)))
    h)

pub accepted_listed :
    (m n nonzeros : ℕ) (list starts : List ℕ) → list_verdict m n nonzeros list ≡ accepted →
    ((i : ℕ) → i ≤ side_room → get_or starts i 0 ≡ row_start (pattern_of m n nonzeros list) i) →
    Listed m n nonzeros list starts
accepted_listed m n nonzeros list starts h s =
    let fine = list_accepted m n nonzeros list h in
    record {
      rows_small = fine.rows_to;
      columns_small = fine.columns_to;
      small = fine.size_to;
      inside = accepted_inside m n nonzeros list h;
      rising = λ t b. rises_rows list t (fine.rising (suc t) b);
      thin = line_thin m n nonzeros list h;
      started = s;
    }
