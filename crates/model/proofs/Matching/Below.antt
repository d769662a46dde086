-- No matching of the conflicts has more columns than L4: each matched column gives one conflict.
-- Assumes nothing.
use mathlib.Core.Bool.{Bool, true, false}
use mathlib.Core.Path.{◌≡◌, refl, sym, ◌∙◌, ap, subst}
use Prim.Native.Nat.{ℕ, suc, pred, ◌≤◌, ◌<◌}
use native.Mathlib.Omega.{arith}
use lib.Dec.{eqb, ltb}
use borrow.Author.Tests.{eqb-true, eq-eqb}
use Rattle.counting.specs.Tests.{◌and◌}
use Rattle.counting.specs.Sums.{any}
use Rattle.counting.proofs.Joined.{and_intro, and_left, and_right}
use Rattle.counting.proofs.Counted.{any_intro, any_elim}
use Rattle.counting.proofs.Charged.{Injects, count_inj}
use Rattle.counting.proofs.Found.{found, found_below, found_passes}
use Rattle.model.specs.Pattern.{Pattern, Inside}
use Rattle.model.specs.Marking.{Marking}
use Rattle.model.specs.Bound.{conflict, L4}
use Rattle.model.proofs.Bound.Chosen.{Chosen, chosen_most}
use Rattle.model.proofs.Matching.Mates.{Matching, meeting, matched, joined_test, meeting-conflict, meeting-row, meeting_column, mate_row}

-- the conflict of column j and its row
unfoldable conflict_of : Pattern → Marking → (ℕ → ℕ) → ℕ → ℕ
conflict_of P μ mate j = found (meeting P μ (pred (mate j)) j) P.size

-- nonzero t is the conflict of a matched column
unfoldable is_of : Pattern → Marking → (ℕ → ℕ) → ℕ → Bool
is_of P μ mate t = any (λ j. ltb 0 (mate j) and eqb t (conflict_of P μ mate j)) P.n

-- what the conflict of a matched column is
record Of (P : Pattern) (μ : Marking) (mate : ℕ → ℕ) (j t : ℕ) : Type 0 where
  column_below : j < P.n
  below : t < P.size
  same : t ≡ conflict_of P μ mate j
  mated : mate j ≡ suc (P.row t)
  column_same : P.column t ≡ j
  conflicts : conflict P μ t ≡ true

-- the conflict of a matched column is so
of_column :
    (P : Pattern) (μ : Marking) (mate : ℕ → ℕ) (j : ℕ) →
    Matching P μ mate → j < P.n → ltb 0 (mate j) ≡ true → Of P μ mate j (conflict_of P μ mate j)
unfolding conflict_of
of_column P μ mate j M b e =
    let row = mate_row (mate j) e in
    let some = joined_test P μ (pred (mate j)) j (M.meets (pred (mate j)) j b row) in
    let t = conflict_of P μ mate j in
    let met = found_passes (meeting P μ (pred (mate j)) j) P.size some in
    record {
      column_below = b;
      below = found_below (meeting P μ (pred (mate j)) j) P.size some;
      same = refl;
      mated = omega (arith, row, meeting-row P μ (pred (mate j)) j t met);
      column_same = meeting_column P μ (pred (mate j)) j t met;
      conflicts = meeting-conflict P μ (pred (mate j)) j t met;
    }

-- the matched column of a nonzero that is the conflict of one
of_nonzero :
    (P : Pattern) (μ : Marking) (mate : ℕ → ℕ) (t : ℕ) →
    Matching P μ mate → is_of P μ mate t ≡ true → (j : ℕ) × Of P μ mate j t
unfolding is_of
of_nonzero P μ mate t M e =
    let w = any_elim (λ j. ltb 0 (mate j) and eqb t (conflict_of P μ mate j)) P.n e in
    let j = w.0 in
    let q = eqb-true t (conflict_of P μ mate j) (and_right (ltb 0 (mate j)) _ w.2) in
    (j, subst (λ (u : ℕ). Of P μ mate j u) (sym q) (of_column P μ mate j M w.1 (and_left _ _ w.2)))

-- the conflict of a matched column is one
of_is :
    (P : Pattern) (μ : Marking) (mate : ℕ → ℕ) (j : ℕ) →
    j < P.n → ltb 0 (mate j) ≡ true → is_of P μ mate (conflict_of P μ mate j) ≡ true
unfolding is_of
of_is P μ mate j b e =
    let t = conflict_of P μ mate j in
    any_intro (λ c. ltb 0 (mate c) and eqb t (conflict_of P μ mate c)) P.n j b (and_intro e (eq-eqb t t refl))

-- two nonzeros of one matched column are one
of_same :
    (P : Pattern) (μ : Marking) (mate : ℕ → ℕ) (j k s t : ℕ) →
    Of P μ mate j s → Of P μ mate k t → j ≡ k → s ≡ t
of_same P μ mate j k s t a b e = a.same ∙ ap (conflict_of P μ mate) e ∙ sym b.same

-- the conflicts of the matched columns are conflicts of which no two lie in one line
of_chosen :
    (P : Pattern) (μ : Marking) (mate : ℕ → ℕ) →
    Matching P μ mate → Chosen P μ (λ l. false) (is_of P μ mate) P.size
of_chosen P μ mate M =
    record {
      conflicts = λ s b e. (of_nonzero P μ mate s M e).1.conflicts;
      row_free = λ s b e. refl;
      column_free = λ s b e. refl;
      rows_apart = λ s t b c e f q. let v = of_nonzero P μ mate s M e in
          let w = of_nonzero P μ mate t M f in
          of_same
          P
          μ
          mate
          v.0
          w.0
          s
          t
          v.1
          w.1
          (M.apart
          (P.row s)
          v.0
          w.0
          v.1.column_below
          w.1.column_below
          v.1.mated
          (w.1.mated ∙ ap suc (sym q)));
      columns_apart = λ s t b c e f q. let v = of_nonzero P μ mate s M e in
          let w = of_nonzero P μ mate t M f in
          of_same P μ mate v.0 w.0 s t v.1 w.1 (sym v.1.column_same ∙ q ∙ w.1.column_same);
    }

-- each matched column has its own
of_injects :
    (P : Pattern) (μ : Marking) (mate : ℕ → ℕ) →
    Matching P μ mate → Injects (λ j. ltb 0 (mate j)) (is_of P μ mate) P.n P.size (conflict_of P μ mate)
of_injects P μ mate M =
    record {
      lands = λ j b e. (of_column P μ mate j M b e).below;
      hits = λ j b e. of_is P μ mate j b e;
      apart = λ j k b c e f q. sym (of_column P μ mate j M b e).column_same
          ∙ ap P.column q
          ∙ (of_column P μ mate k M c f).column_same;
    }

-- a matching of the conflicts is at most L4
pub matching_below :
    (P : Pattern) (μ : Marking) (mate : ℕ → ℕ) → Inside P → Matching P μ mate → matched P mate ≤ L4 P μ
unfolding matched L4
matching_below P μ mate inside M =
    omega (
      arith,
      count_inj (λ j. ltb 0 (mate j)) (is_of P μ mate) P.n P.size (conflict_of P μ mate) (of_injects P μ mate M),
      chosen_most P μ (λ l. false) (is_of P μ mate) P.size inside (omega arith) (of_chosen P μ mate M),
    )
