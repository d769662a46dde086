-- The starts, one row after the other: each leaves a greatest matching of the rows so far. Their number of successes is L4.
-- Assumes nothing.
use mathlib.Core.Bool.{true, false}
use mathlib.Core.Path.{◌≡◌, refl, sym, ◌∙◌, ap, subst}
use mathlib.Core.Logic.{⊎_elim}
use Prim.Native.Nat.{ℕ, zero, suc, ◌+◌, ◌≤◌, ◌<◌}
use native.Mathlib.Omega.{arith}
use lib.Dec.{ltb}
use Rattle.counting.specs.Tests.{bit}
use Rattle.counting.proofs.Joined.{no_way, by_test, bit-true, bit-false}
use Rattle.counting.proofs.Counted.{count_most, count_none}
use Rattle.model.specs.Pattern.{Pattern, Inside}
use Rattle.model.specs.Marking.{Marking}
use Rattle.model.specs.Bound.{L4}
use Rattle.model.specs.Matching.{Visited, column_within, conflict_columns, with_mate, start_from, Tally, counted, starts_from, matching_search}
use Rattle.model.proofs.Matching.Mates.{Matching, joined, matched, mate_matched}
use Rattle.model.proofs.Matching.Greatest.{Greatest, greatest-none, greatest-is-L4, start_succeeds}
use Rattle.model.proofs.Matching.Start.{Stuck, start_fails}
use Rattle.model.proofs.Matching.Swap.{with_other}
use Rattle.model.proofs.Matching.Same.{matching_same}
use Rattle.model.proofs.Matching.Columns.{conflict-joined, joined_passes}
use Rattle.model.proofs.Matching.Outcome.{Closed, Won, RowPost, shut-outside}
use Rattle.model.proofs.Matching.Depth.{left, through_post, columns_post, through_agree, within_agree}

-- after a start from row i
pub record Started (P : Pattern) (μ : Marking) (i : ℕ) (mate : ℕ → ℕ) (o : Visited) : Type 0 where
  pub greatest : Greatest P μ (suc i) o.mate
  pub size : matched P o.mate ≡ matched P mate + bit o.found

-- at first no column is entered
all_left : (P : Pattern) → left P (λ j. false) ≤ P.n
unfolding left
all_left P = count_most (λ j. true) P.n

module _ (P : Pattern) (μ : Marking) (inside : Inside P) (depth : ℕ) (deep : P.n ≤ depth) where
  module _ (i : ℕ) (mate : ℕ → ℕ) (h : i < P.m) (g : Greatest P μ i mate) where
    -- the start
    abbrev begun : Visited
    begun = start_from (conflict_columns P μ) depth i mate

    -- what it leaves behind
    start-row : RowPost P μ i (conflict_columns P μ i) (λ j. false) mate begun
    unfolding start_from
    start-row =
        through_post
        P
        μ
        inside
        (column_within (conflict_columns P μ) depth)
        P.n
        (columns_post P μ inside P.n depth deep)
        i
        (conflict_columns P μ i)
        (λ j. false)
        mate
        (conflict-joined P μ i)
        (all_left P)
        g.matching

    -- it failed
    stuck : begun.found ≡ false → Stuck P μ mate i begun.entered
    stuck n =
        record {
          start = λ j b e. joined_passes P μ begun.entered i j (start-row.all n) e;
          full = λ j b e. let k = closed j e in mate_matched (mate j) k.row k.holds;
          onward = λ j r d b e q c f. let k = closed j e in
              let s : r ≡ k.row = omega (arith, k.holds) in
              k.onward d (ap (λ (x : ℕ). joined P μ x d) (sym s) ∙ f);
        }
      where
        closed : (j : ℕ) → begun.entered j ≡ true → Closed P μ mate begun.entered j
        closed j e = (start-row.lost n).new j refl e

    -- it succeeded: no column is left out
    whole : Won P μ i (λ j. false) mate begun.mate → Matching P μ begun.mate
    whole w =
        matching_same
        P
        μ
        (with_mate begun.mate P.n 0)
        begun.mate
        (λ c b. with_other begun.mate P.n 0 c (λ q. no_way (omega arith)))
        (w.fits
        P.n
        (shut-outside P (λ j. false) P.n (omega arith))
        (λ c b e. no_way (omega (arith, g.below c i b e))))

    -- only row i is new
    rows_below :
        Won P μ i (λ j. false) mate begun.mate →
        (c q : ℕ) → c < P.n → begun.mate c ≡ suc q → q < suc i
    rows_below w c q b e =
        ⊎_elim
        (λ x. omega arith)
        (λ x. ⊎_elim
        (λ y. omega (arith, g.below c q b y))
        (λ y. omega (arith, g.below y.0 q y.1 y.3))
        x)
        (w.from c q b e)

    pub start_post : Started P μ i mate begun
    start_post =
        by_test
        begun.found
        (λ y. let w = start-row.won y in
        record {
          greatest = start_succeeds P μ i mate begun.mate g (whole w) (rows_below w) w.more;
          size = omega (arith, w.more, bit-true begun.found y);
        })
        (λ n. let same = (start-row.lost n).same in
        record {
          greatest = subst
              (λ (m : ℕ → ℕ). Greatest P μ (suc i) m)
              (sym same)
              (start_fails P μ i mate begun.entered inside h g (stuck n));
          size = omega (arith, ap (matched P) same, bit-false begun.found n);
        })

    -- a start that may go deeper than there are columns is the same
    pub start_depth : start_from (conflict_columns P μ) depth i mate ≡ start_from (conflict_columns P μ) P.n i mate
    unfolding start_from
    start_depth =
        through_agree
        P
        μ
        inside
        (column_within (conflict_columns P μ) depth)
        (column_within (conflict_columns P μ) P.n)
        P.n
        (columns_post P μ inside P.n depth deep)
        (within_agree P μ inside P.n depth P.n deep (omega arith))
        i
        (conflict_columns P μ i)
        (λ j. false)
        mate
        (conflict-joined P μ i)
        (all_left P)
        g.matching

  -- after the starts from the first i rows
  pub record After (i : ℕ) (k : Tally) : Type 0 where
    pub greatest : Greatest P μ i k.mate
    pub size : k.size ≡ matched P k.mate

  pub starts_post : (i : ℕ) → i ≤ P.m → After i (starts_from (conflict_columns P μ) depth i)
  unfolding starts_from counted matched
  starts_post zero h =
      record {
        greatest = greatest-none P μ;
        size = sym (count_none (λ j. ltb 0 0) P.n (λ j b. refl));
      }
  starts_post (suc i) h =
      let k = starts_post i (omega arith) in
      let s = start_post i (starts_from (conflict_columns P μ) depth i).mate (omega arith) k.greatest in
      record { greatest = s.greatest; size = omega (arith, k.size, s.size) }

  -- starts that may go deeper than there are columns are the same
  pub starts_depth :
      (i : ℕ) → i ≤ P.m →
      starts_from (conflict_columns P μ) depth i ≡ starts_from (conflict_columns P μ) P.n i
  unfolding starts_from
  starts_depth zero h = refl
  starts_depth (suc i) h =
      let k = starts_from (conflict_columns P μ) depth i in
      ap (counted k) (start_depth i k.mate (omega arith) (starts_post i (omega arith)).greatest)
      ∙ ap
      (λ (x : Tally). counted x (start_from (conflict_columns P μ) P.n i x.mate))
      (starts_depth i (omega arith))

-- the number of successful starts is the most conflicts that can be chosen, no two in one line
pub search_is-L4 : (P : Pattern) (μ : Marking) → Inside P → (matching_search P μ).size ≡ L4 P μ
unfolding matching_search
search_is-L4 P μ inside =
    let k = starts_post P μ inside P.n (omega arith) P.m (omega arith) in
    k.size ∙ greatest-is-L4 P μ (starts_from (conflict_columns P μ) P.n P.m).mate inside k.greatest
