-- Markings that agree on the lines of patterns that are alike have the same bound and the same looks.
-- Assumes nothing.
use mathlib.Core.Bool.{Bool, false}
use mathlib.Core.List.{List, ◌++◌}
use mathlib.Core.Path.{◌≡◌, refl, ◌∙◌, ap, fun_ext}
use Prim.Native.Nat.{ℕ, zero, suc, ◌≤◌, ◌<◌}
use native.Mathlib.Omega.{arith}
use lib.Dec.{eqb}
use lib.ListN.{replicate}
use Rattle.counting.specs.Tests.{◌and◌, ◌or◌}
use Rattle.counting.specs.Sums.{count}
use Rattle.counting.proofs.Joined.{and_eq, or_eq}
use Rattle.model.specs.declared.Part.{Part}
use Rattle.model.specs.declared.Part.TheVariants.{Zero, One}
use Rattle.model.specs.declared.Caps.{Caps}
use Rattle.model.specs.Pattern.{Pattern, lines, row_line, column_line, on}
use Rattle.model.specs.Marking.{Marking}
use Rattle.model.specs.Bound.{leans, untaken, at_stake, untaken_on, falling, leaning_counts, struck, L3, conflict, most_chosen, L4, bound}
use Rattle.model.specs.Matching.{columns_where, conflict_of, conflict_columns, starts_from, matching_search, looks}
use Rattle.model.proofs.Matching.Columns.{where_eq}
use Rattle.model.proofs.Alike.Patterns.{counts_agree, lines_same, row_line_same, column_line_same, on_same}
use Rattle.model.proofs.Alike.Marks.{AlikeMarks, taken_same, untaken_same, leans_same, leans-row, leans_column, L1_same, L2_same}

-- two histograms that agree
pub falling_eq :
    (g h : ℕ → ℕ) (n : ℕ) → ((x : ℕ) → x ≤ n → g x ≡ h x) → falling g n ≡ falling h n
unfolding falling
falling_eq g h zero e = ap (λ (k : ℕ). replicate k 0) (e 0 (omega arith))
falling_eq g h (suc n) e =
    ap (λ (k : ℕ). replicate k (suc n) ++ falling g n) (e (suc n) (omega arith))
    ∙ ap (λ (zs : List ℕ). replicate (h (suc n)) (suc n) ++ zs) (falling_eq g h n (λ x b. e x (omega arith)))

module _ {P Q : Pattern} {μ ν : Marking} (k : AlikeMarks P Q μ ν) where
  stake_same : (p : Part) → at_stake P μ p ≡ at_stake Q ν p
  unfolding at_stake
  stake_same p =
      counts_agree
      (λ t. untaken P μ t and (leans P μ p (row_line P t) or leans P μ p (column_line P t)))
      (λ t. untaken Q ν t and (leans Q ν p (row_line Q t) or leans Q ν p (column_line Q t)))
      k.patterns.size_same
      (λ t b. and_eq (untaken_same k t b) (or_eq (leans-row k p t b) (leans_column k p t b)))

  untaken_on_same : (l : ℕ) → untaken_on P μ l ≡ untaken_on Q ν l
  unfolding untaken_on
  untaken_on_same l =
      counts_agree
      (λ t. on P l t and untaken P μ t)
      (λ t. on Q l t and untaken Q ν t)
      k.patterns.size_same
      (λ t b. and_eq (on_same k.patterns l t b) (untaken_same k t b))

  counts_same : (p : Part) → leaning_counts P μ p ≡ leaning_counts Q ν p
  unfolding leaning_counts
  counts_same p =
      falling_eq
      (λ x. count (λ l. leans P μ p l and eqb (untaken_on P μ l) x) (lines P))
      (λ x. count (λ l. leans Q ν p l and eqb (untaken_on Q ν l) x) (lines Q))
      P.size
      (λ x b. counts_agree
      (λ l. leans P μ p l and eqb (untaken_on P μ l) x)
      (λ l. leans Q ν p l and eqb (untaken_on Q ν l) x)
      (lines_same k.patterns)
      (λ l c. and_eq (leans_same k p l c) (ap (λ (y : ℕ). eqb y x) (untaken_on_same l))))
      ∙ ap
      (falling (λ x. count (λ l. leans Q ν p l and eqb (untaken_on Q ν l) x) (lines Q)))
      k.patterns.size_same

  struck_same : (caps : Caps) (p : Part) → struck P caps μ p ≡ struck Q caps ν p
  unfolding struck
  struck_same caps p = rw (counts_same p, stake_same p, taken_same k p)

  pub L3_same : (caps : Caps) → L3 P caps μ ≡ L3 Q caps ν
  unfolding L3
  L3_same caps = rw (struck_same caps Zero, struck_same caps One)

  conflict_same : (t : ℕ) → t < P.size → conflict P μ t ≡ conflict Q ν t
  unfolding conflict
  conflict_same t b =
      or_eq
      (and_eq (leans-row k Zero t b) (leans_column k One t b))
      (and_eq (leans-row k One t b) (leans_column k Zero t b))

  -- the most that can be chosen, where the same lines are used
  chosen_same :
      (used used' : ℕ → Bool) (t : ℕ) → t ≤ P.size →
      ((l : ℕ) → used l ≡ used' l) →
      most_chosen P μ used t ≡ most_chosen Q ν used' t
  unfolding most_chosen
  chosen_same used used' zero b h = refl
  chosen_same used used' (suc t) b h =
      let free = conflict_same t (omega arith) in
      let row = h (row_line P t) ∙ ap used' (row_line_same k.patterns t (omega arith)) in
      let column = h (column_line P t) ∙ ap used' (column_line_same k.patterns t (omega arith)) in
      let without = chosen_same used used' t (omega arith) h in
      let with_it =
      chosen_same
      (λ l. used l or on P l t)
      (λ l. used' l or on Q l t)
      t
      (omega arith)
      (λ l. or_eq (h l) (on_same k.patterns l t (omega arith))) in
      rw (without, with_it, free, row, column)

  pub L4_same : L4 P μ ≡ L4 Q ν
  unfolding L4
  L4_same = chosen_same (λ l. false) (λ l. false) P.size (omega arith) (λ l. refl) ∙ ap (most_chosen Q ν (λ l. false)) k.patterns.size_same

  pub bound_same : (caps : Caps) → bound P caps μ ≡ bound Q caps ν
  unfolding bound
  bound_same caps = rw (L1_same k, L2_same k, L3_same caps, L4_same)

  -- the conflict columns of a row
  columns_same : (i : ℕ) → conflict_columns P μ i ≡ conflict_columns Q ν i
  unfolding conflict_columns conflict_of
  columns_same i =
      where_eq
      (conflict_of P μ i)
      (conflict_of Q ν i)
      P.column
      Q.column
      P.size
      0
      (λ t a b. and_eq (conflict_same t (omega arith)) (ap (λ (r : ℕ). eqb r i) (k.patterns.row_same t (omega arith))))
      (λ t a b. k.patterns.column_same t (omega arith))
      ∙ ap (λ (size : ℕ). columns_where (conflict_of Q ν i) Q.column size 0) k.patterns.size_same

  pub looks_same : looks P μ ≡ looks Q ν
  unfolding looks matching_search
  looks_same =
      ap (λ (columns : ℕ → List ℕ). (starts_from columns P.n P.m).looks) (fun_ext columns_same)
      ∙ ap (λ (n : ℕ). (starts_from (conflict_columns Q ν) n P.m).looks) k.patterns.n_same
      ∙ ap (λ (m : ℕ). (starts_from (conflict_columns Q ν) Q.n m).looks) k.patterns.m_same
