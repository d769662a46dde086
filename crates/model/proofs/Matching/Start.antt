-- A row that finds no column: the columns entered go into the cover, and the rows reached leave it.
-- Assumes nothing.
use mathlib.Core.Bool.{Bool, true, false, not}
use mathlib.Core.Path.{◌≡◌, sym, ◌∙◌, ap}
use mathlib.Core.Logic.{⊎_elim}
use Prim.Native.Nat.{ℕ, suc, pred, ◌+◌, ◌≤◌, ◌<◌}
use native.Mathlib.Nat.{eq-or-lt_of_le, le_of_suc-le-suc}
use native.Mathlib.Omega.{arith}
use lib.Dec.{eqb, ltb}
use borrow.Author.Tests.{eqb-true, eq-eqb, not-true}
use Rattle.counting.specs.Tests.{◌and◌, ◌or◌}
use Rattle.counting.specs.Sums.{count, any}
use Rattle.counting.proofs.Joined.{by_test, clash, and_intro, and_left, and_right, or_left, or_right, or_cases}
use Rattle.counting.proofs.Counted.{count_mono, count-split, any_intro, any_elim}
use Rattle.counting.proofs.Charged.{Injects, count_inj}
use Rattle.model.specs.Pattern.{Pattern, Inside}
use Rattle.model.specs.Marking.{Marking}
use Rattle.model.proofs.Matching.Mates.{joined, matched, joined-column_in, mate_row}
use Rattle.model.proofs.Matching.Greatest.{Greatest}

-- columns entered from row i with no free one among them: all columns joined to row i, and all joined to the row of one of them
pub record Stuck (P : Pattern) (μ : Marking) (mate : ℕ → ℕ) (i : ℕ) (entered : ℕ → Bool) : Type 0 where
  pub start : (j : ℕ) → j < P.n → joined P μ i j ≡ true → entered j ≡ true
  pub full : (j : ℕ) → j < P.n → entered j ≡ true → ltb 0 (mate j) ≡ true
  pub onward :
      (j r j' : ℕ) → j < P.n → entered j ≡ true → mate j ≡ suc r →
      j' < P.n → joined P μ r j' ≡ true → entered j' ≡ true

-- row r is the row of an entered column
unfoldable pub reached : Pattern → (ℕ → ℕ) → (ℕ → Bool) → ℕ → Bool
reached P mate entered r = any (λ j. entered j and eqb (mate j) (suc r)) P.n

-- an entered column reaches its row
reached-by :
    (P : Pattern) (mate : ℕ → ℕ) (entered : ℕ → Bool) (r j : ℕ) →
    j < P.n → entered j ≡ true → mate j ≡ suc r → reached P mate entered r ≡ true
unfolding reached
reached-by P mate entered r j b e q =
    any_intro
    (λ c. entered c and eqb (mate c) (suc r))
    P.n
    j
    b
    (and_intro e (eq-eqb (mate j) (suc r) q))

-- the columns of a row that is reached are entered
reached_enters :
    (P : Pattern) (μ : Marking) (mate : ℕ → ℕ) (i : ℕ) (entered : ℕ → Bool) (r j : ℕ) →
    Stuck P μ mate i entered → reached P mate entered r ≡ true →
    j < P.n → joined P μ r j ≡ true → entered j ≡ true
unfolding reached
reached_enters P μ mate i entered r j stuck e b join =
    let w = any_elim (λ c. entered c and eqb (mate c) (suc r)) P.n e in
    let c = w.0 in
    stuck.onward
    c
    r
    j
    w.1
    (and_left _ _ w.2)
    (eqb-true (mate c) (suc r) (and_right (entered c) _ w.2))
    b
    join

-- the conflicts of one more row are covered
start_covers :
    (P : Pattern) (μ : Marking) (i : ℕ) (mate : ℕ → ℕ) (entered : ℕ → Bool) →
    Inside P → (g : Greatest P μ i mate) → Stuck P μ mate i entered →
    (r j : ℕ) → r < suc i → joined P μ r j ≡ true →
    (g.rows r and not (reached P mate entered r)) or (g.columns j or entered j) ≡ true
start_covers P μ i mate entered inside g stuck r j b e =
    let c = joined-column_in P μ r j inside e in
    ⊎_elim
    (λ q. or_right _ (or_right _ (stuck.start j c (ap (λ k. joined P μ k j) (sym q) ∙ e))))
    (λ l. by_test
    (reached P mate entered r)
    (λ h. or_right _ (or_right _ (reached_enters P μ mate i entered r j stuck h c e)))
    (λ h. ⊎_elim
    (λ k. or_left _ (and_intro k (ap not h)))
    (λ k. or_right _ (or_left _ k))
    (or_cases (g.rows r) (g.columns j) (g.cover.covers r j l e))))
    (eq-or-lt_of_le (le_of_suc-le-suc b))

-- a column that is new in the cover: its row was in the cover, and leaves it
new_injects :
    (P : Pattern) (μ : Marking) (i : ℕ) (mate : ℕ → ℕ) (entered : ℕ → Bool) →
    i < P.m → (g : Greatest P μ i mate) → Stuck P μ mate i entered →
    Injects
    (λ j. (g.columns j or entered j) and not (g.columns j))
    (λ r. g.rows r and reached P mate entered r)
    P.n
    P.m
    (λ j. pred (mate j))
new_injects P μ i mate entered in_rows g stuck = record { lands = lands'; hits = hits'; apart = apart' }
  where
    new : ℕ → Bool
    new j = (g.columns j or entered j) and not (g.columns j)

    old : (j : ℕ) → new j ≡ true → g.columns j ≡ false
    old j e = not-true (g.columns j) (and_right (g.columns j or entered j) _ e)

    came : (j : ℕ) → new j ≡ true → entered j ≡ true
    came j e = ⊎_elim (λ h. clash h (old j e)) (λ h. h) (or_cases (g.columns j) (entered j) (and_left _ _ e))

    row : (j : ℕ) → j < P.n → new j ≡ true → mate j ≡ suc (pred (mate j))
    row j b e = mate_row (mate j) (stuck.full j b (came j e))

    lands' : (j : ℕ) → j < P.n → new j ≡ true → pred (mate j) < P.m
    lands' j b e = omega (arith, g.below j (pred (mate j)) b (row j b e))

    held : (j : ℕ) → j < P.n → new j ≡ true → g.rows (pred (mate j)) ≡ true
    held j b e =
        let r = pred (mate j) in
        ⊎_elim
        (λ h. h)
        (λ h. clash h (old j e))
        (or_cases
        (g.rows r)
        (g.columns j)
        (g.cover.covers r j (g.below j r b (row j b e)) (g.matching.meets r j b (row j b e))))

    hits' :
        (j : ℕ) → j < P.n → new j ≡ true →
        g.rows (pred (mate j)) and reached P mate entered (pred (mate j)) ≡ true
    hits' j b e =
        and_intro (held j b e) (reached-by P mate entered (pred (mate j)) j b (came j e) (row j b e))

    apart' :
        (j k : ℕ) → j < P.n → k < P.n → new j ≡ true → new k ≡ true → pred (mate j) ≡ pred (mate k) → j ≡ k
    apart' j k b c e f q = g.matching.apart (pred (mate j)) j k b c (row j b e) (row k c f ∙ ap suc (sym q))

-- the cover gets no larger
start_small :
    (P : Pattern) (μ : Marking) (i : ℕ) (mate : ℕ → ℕ) (entered : ℕ → Bool) →
    i < P.m → (g : Greatest P μ i mate) → Stuck P μ mate i entered →
    count (λ r. g.rows r and not (reached P mate entered r)) P.m
    + count (λ j. g.columns j or entered j) P.n ≤ matched P mate
start_small P μ i mate entered in_rows g stuck =
    omega (
      arith,
      g.small,
      count-split g.rows (reached P mate entered) P.m,
      count-split (λ j. g.columns j or entered j) g.columns P.n,
      count_mono
          (λ j. (g.columns j or entered j) and g.columns j)
          g.columns
          P.n
          (λ j b e. and_right (g.columns j or entered j) (g.columns j) e),
      count_inj
          (λ j. (g.columns j or entered j) and not (g.columns j))
          (λ r. g.rows r and reached P mate entered r)
          P.n
          P.m
          (λ j. pred (mate j))
          (new_injects P μ i mate entered in_rows g stuck),
    )

-- a row that finds no column: the matching stays, and is greatest for one more row
pub start_fails :
    (P : Pattern) (μ : Marking) (i : ℕ) (mate : ℕ → ℕ) (entered : ℕ → Bool) →
    Inside P → i < P.m → Greatest P μ i mate → Stuck P μ mate i entered → Greatest P μ (suc i) mate
start_fails P μ i mate entered inside in_rows g stuck =
    record {
      matching = g.matching;
      below = λ j r b e. omega (arith, g.below j r b e);
      rows = λ r. g.rows r and not (reached P mate entered r);
      columns = λ j. g.columns j or entered j;
      cover = record { covers = λ r j b e. start_covers P μ i mate entered inside g stuck r j b e };
      small = start_small P μ i mate entered in_rows g stuck;
    }
