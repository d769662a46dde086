-- The looks of one bound are at most R × E, for R conflict rows and E conflicts: in one start each row is gone through at most once.
-- Assumes nothing.
use mathlib.Core.Bool.{Bool, true, false}
use mathlib.Core.List.{List, [], ◌∷◌}
use mathlib.Core.Path.{◌≡◌, refl, sym, ◌∙◌, ap, subst}
use Prim.Native.Nat.{ℕ, zero, suc, pred, ◌+◌, ◌*◌, ◌≤◌, ◌<◌}
use native.Mathlib.Nat.{add-mul, mul-le-mul, mul-le-mul_left}
use native.Mathlib.Omega.{arith}
use lib.Dec.{eqb, ltb}
use lib.ListN.{length}
use borrow.Author.Tests.{eqb-true, eqb-false, ltb-true, ltb-false, eq-eqb, ne_eqb}
use Rattle.counting.specs.Tests.{◌or◌, pick, bit}
use Rattle.counting.specs.Sums.{sum, count, any}
use Rattle.counting.proofs.Joined.{no_way, by_test, clash, or_left, or_fails, pick_true, pick-false, bit-true}
use Rattle.counting.proofs.Summed.{sum-suc, sum_le, sum_add, sum-only, sum_times, sum_term, sum-within}
use Rattle.counting.proofs.Counted.{count-one, count_most, count_none, count-some}
use Rattle.counting.proofs.Charged.{charge}
use Rattle.model.specs.Pattern.{Pattern, Inside, lines}
use Rattle.model.specs.Marking.{Marking}
use Rattle.model.specs.Bound.{conflict, L4}
use Rattle.model.specs.Matching.{Visited, Visit, looked, through, with_column, hand_over, column_within, conflict_of, conflict_columns, start_from, counted, starts_from, matching_search, looks, conflicts, conflict_rows}
use Rattle.model.proofs.Bound.Cover.{cover_bounds}
use Rattle.model.proofs.Matching.Greatest.{Greatest}
use Rattle.model.proofs.Matching.Columns.{each, each_first, each-rest, conflict_inside, conflict-length, conflict_total}
use Rattle.model.proofs.Matching.Visits.{through-none, through-found, through-on, within_free, within_held, within-entered, start-without, hand_found, hand_not, column_same}
use Rattle.model.proofs.Matching.Depth.{matched-row}
use Rattle.model.proofs.Matching.Searched.{starts_post}

module _ (columns : ℕ → List ℕ) (n : ℕ) (within : (r : ℕ) → each (λ j. ltb j n) (columns r) ≡ true) where
  -- the conflicts that a column can still lead to: those of its row, if it is matched and not entered
  unfoldable due_of : (ℕ → Bool) → (ℕ → ℕ) → ℕ → ℕ
  due_of entered mate j = pick (entered j or eqb (mate j) 0) 0 (length (columns (pred (mate j))))

  -- all of them
  unfoldable due : (ℕ → Bool) → (ℕ → ℕ) → ℕ
  due entered mate = sum (due_of entered mate) n

  due-none : (entered : ℕ → Bool) (mate : ℕ → ℕ) (j : ℕ) → entered j ≡ true → due_of entered mate j ≡ 0
  unfolding due_of
  due-none entered mate j e = pick_true _ _ (or_left (eqb (mate j) 0) e)

  due-some :
      (entered : ℕ → Bool) (mate : ℕ → ℕ) (j : ℕ) →
      entered j ≡ false → (mate j ≡ 0 → ⊥) → due_of entered mate j ≡ length (columns (pred (mate j)))
  unfolding due_of
  due-some entered mate j e z = pick-false _ _ (or_fails e (ne_eqb (mate j) 0 z))

  -- another column's stay when column j is entered
  due-other :
      (entered : ℕ → Bool) (mate : ℕ → ℕ) (j c : ℕ) →
      (c ≡ j → ⊥) → due_of (with_column entered j) mate c ≡ due_of entered mate c
  unfolding due_of with_column ◌or◌
  due-other entered mate j c d =
      let e = ne_eqb c j d in
      rw e refl

  -- once column j is entered, its own are gone
  due_enters :
      (entered : ℕ → Bool) (mate : ℕ → ℕ) (j : ℕ) → j < n →
      due (with_column entered j) mate + due_of entered mate j ≤ due entered mate
  unfolding due
  due_enters entered mate j b =
      omega (
        arith,
        sum-only own n j b (λ c l d. pick-false _ _ (ne_eqb c j d)),
        pick_true (due_of entered mate j) 0 (eq-eqb j j refl),
        sum_add (due_of (with_column entered j) mate) own n,
        sum_le (λ c. due_of (with_column entered j) mate c + own c) (due_of entered mate) n each-one,
      )
    where
      own : ℕ → ℕ
      own c = pick (eqb c j) (due_of entered mate j) 0

      each-one : (c : ℕ) → c < n → due_of (with_column entered j) mate c + own c ≤ due_of entered mate c
      each-one c l =
          by_test
          (eqb c j)
          (λ e. let q = eqb-true c j e in
          omega (
            arith,
            ap (due_of (with_column entered j) mate) q,
            due-none (with_column entered j) mate j (column_same entered j),
            pick_true (due_of entered mate j) 0 e,
            ap (due_of entered mate) q,
          ))
          (λ e. omega (
            arith,
            due-other entered mate j c (eqb-false c j e),
            pick-false (due_of entered mate j) 0 e,
          ))

  -- a visit pays its looks by what is due, and where it fails the mates stay
  record Paid (x : ℕ) (entered : ℕ → Bool) (mate : ℕ → ℕ) (o : Visited) : Type 0 where
    paid : o.looks + due o.entered mate ≤ x + due entered mate
    same : o.found ≡ false → o.mate ≡ mate

  paid_as : {x : ℕ} {entered : ℕ → Bool} {mate : ℕ → ℕ} {o p : Visited} → o ≡ p → Paid x entered mate p → Paid x entered mate o
  paid_as {x} {entered} {mate} e k = subst (λ (o : Visited). Paid x entered mate o) (sym e) k

  -- visits of columns that pay so
  abbrev Cheap : Visit → Type 0
  Cheap visit = (j i : ℕ) (entered : ℕ → Bool) (mate : ℕ → ℕ) → j < n → Paid 0 entered mate (visit j i entered mate)

  -- a look, and a visit that ended at an unmatched column
  found_first :
      (x : ℕ) (entered : ℕ → Bool) (mate : ℕ → ℕ) (o : Visited) →
      Paid 0 entered mate o → o.found ≡ true → Paid (suc x) entered mate (looked 1 o)
  unfolding looked
  found_first x entered mate o k f = record { paid = omega (arith, k.paid); same = λ e. clash f e }

  -- a look, a visit that failed, and what followed
  then-rest :
      (x : ℕ) (entered : ℕ → Bool) (mate : ℕ → ℕ) (o q : Visited) →
      Paid 0 entered mate o → Paid x o.entered mate q → Paid (suc x) entered mate (looked (1 + o.looks) q)
  unfolding looked
  then-rest x entered mate o q k r = record { paid = omega (arith, k.paid, r.paid); same = r.same }

  -- a row over such visits pays one look for each of its columns
  through_paid :
      (visit : Visit) → Cheap visit → (i : ℕ) (js : List ℕ) (entered : ℕ → Bool) (mate : ℕ → ℕ) →
      each (λ j. ltb j n) js ≡ true → Paid (length js) entered mate (through visit i js entered mate)
  through_paid visit cheap i [] entered mate all =
      paid_as (through-none visit i entered mate) record { paid = omega arith; same = λ f. refl }
  through_paid visit cheap i (j ∷ js) entered mate all =
      let o = visit j i entered mate in
      let k = cheap j i entered mate (ltb-true j n (each_first (λ c. ltb c n) j js all)) in
      by_test
      o.found
      (λ f. paid_as (through-found visit i entered mate j js f) (found_first (length js) entered mate o k f))
      (λ f. paid_as
      (through-on visit i entered mate j js f
      ∙ ap (λ (m : ℕ → ℕ). looked (1 + o.looks) (through visit i js o.entered m)) (k.same f))
      (then-rest
      (length js)
      entered
      mate
      o
      (through visit i js o.entered mate)
      k
      (through_paid visit cheap i js o.entered mate (each-rest (λ c. ltb c n) j js all))))

  -- handing over adds no look
  hand_paid :
      (x j i : ℕ) (entered : ℕ → Bool) (mate : ℕ → ℕ) (o : Visited) →
      Paid x entered mate o → Paid x entered mate (hand_over j i o)
  hand_paid x j i entered mate o k =
      by_test
      o.found
      (λ f. paid_as (hand_found j i o f) record { paid = k.paid; same = λ e. clash refl e })
      (λ f. paid_as (hand_not j i o f) record { paid = k.paid; same = λ e. k.same f })

  -- the visits of columns pay so, however deep they may go
  within_paid : (depth : ℕ) → Cheap (column_within columns depth)
  unfolding column_within
  within_paid zero j i entered mate b = record { paid = omega arith; same = λ f. refl }
  within_paid (suc depth) j i entered mate b =
      by_test
      (entered j)
      (λ e. paid_as
      (within-entered columns (suc depth) j i entered mate e)
      record { paid = omega arith; same = λ f. refl })
      (λ e. by_test
      (eqb (mate j) 0)
      (λ f. paid_as
      (within_free columns depth j i entered mate e (eqb-true (mate j) 0 f))
      record { paid = omega (arith, due_enters entered mate j b); same = λ f. clash refl f })
      (λ f. let z = eqb-false (mate j) 0 f in
      let r = pred (mate j) in
      let o = through (column_within columns depth) r (columns r) (with_column entered j) mate in
      let k = through_paid (column_within columns depth) (within_paid depth) r (columns r) (with_column entered j) mate (within r) in
      paid_as
      (within_held columns depth j i entered mate e z)
      (hand_paid
      0
      j
      i
      entered
      mate
      o
      record {
        paid = omega (arith, k.paid, due_enters entered mate j b, due-some entered mate j e z);
        same = k.same;
      })))

  -- a start pays with its own row's columns and what is due at first
  start_paid :
      (depth i : ℕ) (mate : ℕ → ℕ) →
      (start_from columns depth i mate).looks ≤ length (columns i) + due (λ j. false) mate
  unfolding start_from
  start_paid depth i mate =
      omega (
        arith,
        (through_paid (column_within columns depth) (within_paid depth) i (columns i) (λ j. false) mate (within i)).paid,
      )

-- what is due at first: the conflicts of rows that are matched, each matched with one column
module _ (P : Pattern) (μ : Marking) (inside : Inside P) where
  -- the conflicts of a row
  abbrev own : ℕ → ℕ
  own r = length (conflict_columns P μ r)

  due_rows :
      (i : ℕ) (mate : ℕ → ℕ) → Greatest P μ i mate →
      due (conflict_columns P μ) P.n (conflict_inside P μ inside) (λ j. false) mate ≤ sum own i
  unfolding due due_of ◌or◌
  due_rows i mate g =
      charge
      (λ j r. own r * bit (eqb (mate j) (suc r)))
      (λ j. pick (eqb (mate j) 0) 0 (own (pred (mate j))))
      own
      P.n
      i
      paid
      most
    where
      paid :
          (j : ℕ) → j < P.n →
          pick (eqb (mate j) 0) 0 (own (pred (mate j))) ≤ sum (λ r. own r * bit (eqb (mate j) (suc r))) i
      paid j b =
          by_test
          (eqb (mate j) 0)
          (λ e. omega (arith, pick_true 0 (own (pred (mate j))) e))
          (λ e. let q = matched-row (mate j) (eqb-false (mate j) 0 e) in
          let r = pred (mate j) in
          let one : own r * bit (eqb (mate j) (suc r)) ≡ own r =
          ap (λ (x : ℕ). own r * x) (bit-true (eqb (mate j) (suc r)) (eq-eqb (mate j) (suc r) q)) ∙ omega arith in
          omega (
            arith,
            pick-false 0 (own r) e,
            one,
            sum_term (λ s. own s * bit (eqb (mate j) (suc s))) i r (g.below j r b q),
          ))

      most : (r : ℕ) → r < i → sum (λ j. own r * bit (eqb (mate j) (suc r))) P.n ≤ own r
      most r b =
          omega (
            arith,
            sum_times (own r) (λ j. bit (eqb (mate j) (suc r))) P.n,
            mul-le-mul_left
                (own r)
                (count-one
                (λ j. eqb (mate j) (suc r))
                P.n
                (λ c d l k e f. g.matching.apart r c d l k (eqb-true (mate c) (suc r) e) (eqb-true (mate d) (suc r) f))),
          )

  -- a start meets each conflict at most once
  start-looks :
      (depth i : ℕ) (mate : ℕ → ℕ) → i < P.m → Greatest P μ i mate →
      (start_from (conflict_columns P μ) depth i mate).looks ≤ conflicts P μ
  start-looks depth i mate h g =
      omega (
        arith,
        start_paid (conflict_columns P μ) P.n (conflict_inside P μ inside) depth i mate,
        due_rows i mate g,
        sum-suc own i,
        sum-within own (suc i) P.m (omega arith),
        conflict_total P μ inside,
      )

  -- a row without conflicts makes no look
  start_none :
      (depth i : ℕ) (mate : ℕ → ℕ) → any (conflict_of P μ i) P.size ≡ false →
      (start_from (conflict_columns P μ) depth i mate).looks ≡ 0
  unfolding any
  start_none depth i mate e =
      let none : length (conflict_columns P μ i) ≤ 0 =
      omega (arith, conflict-length P μ i, ltb-false 0 (count (conflict_of P μ i) P.size) e) in
      ap
      (λ (o : Visited). o.looks)
      (start-without (conflict_columns P μ) depth i mate (no_columns_lem (conflict_columns P μ i) none))
    where
      no_columns_lem : (js : List ℕ) → length js ≤ 0 → js ≡ []
      no_columns_lem [] h = refl
      no_columns_lem (j ∷ js) h = no_way (omega arith)

  -- the starts from the first rows
  starts_looks :
      (i : ℕ) → i ≤ P.m →
      (starts_from (conflict_columns P μ) P.n i).looks ≤ count (λ r. any (conflict_of P μ r) P.size) i * conflicts P μ
  unfolding starts_from counted
  starts_looks zero h = omega arith
  starts_looks (suc i) h =
      let k = starts_from (conflict_columns P μ) P.n i in
      let test : ℕ → Bool = λ r. any (conflict_of P μ r) P.size in
      let g = (starts_post P μ inside P.n (omega arith) i (omega arith)).greatest in
      let before = starts_looks i (omega arith) in
      let split = add-mul (count test i) (bit (test i)) (conflicts P μ) in
      let last : count test (suc i) * conflicts P μ ≡ (count test i + bit (test i)) * conflicts P μ =
      ap (λ (x : ℕ). x * conflicts P μ) (sum-suc (λ r. bit (test r)) i) in
      by_test
      (test i)
      (λ e. let one : bit (test i) * conflicts P μ ≡ conflicts P μ =
      ap (λ (x : ℕ). x * conflicts P μ) (bit-true (test i) e) ∙ omega arith in
      omega (arith, before, split, last, one, start-looks P.n i k.mate (omega arith) g))
      (λ e. omega (arith, before, split, last, start_none P.n i k.mate e))

  -- the looks of one bound
  pub looks_product : looks P μ ≤ conflict_rows P μ * conflicts P μ
  unfolding looks matching_search conflict_rows
  looks_product = starts_looks P.m (omega arith)

-- at most m × N
pub looks_most : (P : Pattern) (μ : Marking) → Inside P → looks P μ ≤ P.m * P.size
unfolding conflict_rows conflicts
looks_most P μ inside =
    let rows = count_most (λ i. any (conflict_of P μ i) P.size) P.m in
    let all = count_most (conflict P μ) P.size in
    omega (arith, looks_product P μ inside, mul-le-mul rows all)

-- without conflicts there is nothing to match, and no look
pub no_conflicts : (P : Pattern) (μ : Marking) → Inside P → conflicts P μ ≡ 0 → L4 P μ ≡ 0
unfolding conflicts
no_conflicts P μ inside e =
    omega (
      arith,
      cover_bounds P μ (λ l. false) inside none,
      count_none (λ l. false) (lines P) (λ l b. refl),
    )
  where
    none : (t : ℕ) → t < P.size → conflict P μ t ≡ true → false or false ≡ true
    none t b h = no_way (omega (arith, count-some (conflict P μ) P.size t b h))

pub no_looks : (P : Pattern) (μ : Marking) → Inside P → conflicts P μ ≡ 0 → looks P μ ≡ 0
no_looks P μ inside e =
    let none : conflict_rows P μ * conflicts P μ ≡ 0 = ap (λ (x : ℕ). conflict_rows P μ * x) e ∙ omega arith in
    omega (arith, looks_product P μ inside, none)
