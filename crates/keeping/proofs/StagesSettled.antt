-- The arrays that are kept, where a line gets another mark or other counts and is settled.
-- Assumes nothing.
use mathlib.Core.Bool.{true}
use mathlib.Core.Path.{◌≡◌, refl, sym, ◌∙◌, ap}
use mathlib.Core.List.{List}
use Prim.Native.Nat.{ℕ, ◌+◌, ◌*◌, ◌≤◌, ◌<◌}
use native.Mathlib.Omega.{arith}
use borrow.Author.Tests.{eq-eqb, eqb-true, eqb-false}
use lib.Dec.{eqb, ltb}
use lib.ListN.{length, get_or, set, length-set}
use lib.Seq.{get_or-set_same, get_or-set_other}
use Rattle.counting.specs.Tests.{pick}
use Rattle.counting.proofs.Joined.{no_way, by_test, pick_true, pick-false}
use Rattle.model.specs.Limits.{line_room}
use Rattle.model.specs.Pattern.{Pattern, lines}
use Rattle.model.specs.Marking.{Marking}
use Rattle.keeping.specs.Kinds.{cells, kind_of}
use Rattle.keeping.specs.Tied.{Tied}
use Rattle.keeping.specs.Kept.{crossing_with, crossing_open, Counted, Agree, Stage}

-- a line's mark and its counts in one array and in another
record SameLine (marks by marks' by' : List ℕ) (z : ℕ) : Type 0 where
  mark : get_or marks' z 0 ≡ get_or marks z 0
  zeros : get_or by' z 0 ≡ get_or by z 0
  ones : get_or by' (line_room + z) 0 ≡ get_or by (line_room + z) 0

-- line y has the kind of its mark and counts, and every other line the kind that it had
pub record Settled (marks by kinds kinds' : List ℕ) (y : ℕ) : Type 0 where
  pub long : length kinds' ≡ line_room
  pub kind_is :
      (z : ℕ) → z < line_room →
      get_or kinds' z 0
      ≡ pick (eqb z y) (kind_of (get_or marks y 0) (get_or by y 0) (get_or by (line_room + y) 0)) (get_or kinds z 0)

-- kinds agree with marks and counts again, once a line is settled after its mark or its counts have changed
agree_settled :
    {P : Pattern} {marks by marks' by' kinds kinds' : List ℕ} {y : ℕ} → lines P ≤ line_room →
    Agree P marks by kinds →
    ((z : ℕ) → z < lines P → (z ≡ y → ⊥) → SameLine marks by marks' by' z) →
    Settled marks' by' kinds kinds' y → Agree P marks' by' kinds'
agree_settled {P} {marks} {by} {marks'} {by'} {kinds} {kinds'} {y} few agree same settled =
    record {
      kinds_long = settled.long;
      kind_is = λ z b.
          by_test
          (eqb z y)
          (λ e. settled.kind_is z (omega arith)
          ∙ pick_true (at marks' by' y) (get_or kinds z 0) e
          ∙ ap (at marks' by') (sym (eqb-true z y e)))
          (λ e. let s = same z b (eqb-false z y e) in
          settled.kind_is z (omega arith)
          ∙ pick-false (at marks' by' y) (get_or kinds z 0) e
          ∙ agree.kind_is z b
          ∙ simp (s.mark, s.zeros, s.ones));
    }
  where
    at : List ℕ → List ℕ → ℕ → ℕ
    at ms bs z = kind_of (get_or ms z 0) (get_or bs z 0) (get_or bs (line_room + z) 0)

-- counts with other numbers of nonzeros taken besides at line y
counted_at :
    {P : Pattern} {μ : Marking} {p : ℕ} {c : ℕ → ℕ} {by left : List ℕ} → lines P ≤ line_room → p < 2 →
    Counted P μ p c by left → (d : ℕ → ℕ) (y v w : ℕ) → y < lines P →
    ((z : ℕ) → z < lines P → (z ≡ y → ⊥) → d z ≡ c z) →
    v + c y ≡ get_or by (line_room * p + y) 0 + d y → w + d y ≡ get_or left y 0 + c y →
    Counted P μ p d (set by (line_room * p + y) v) (set left y w)
counted_at {P} {μ} {p} {c} {by} {left} few part counted d y v w b same gain loss =
    record {
      by_long = length-set by (line_room * p + y) v ∙ counted.by_long;
      left_long = length-set left y w ∙ counted.left_long;
      by_is = λ q z a e.
          by_test
          (eqb q p)
          (λ i. by_test (eqb z y) (λ j. own q z (eqb-true q p i) (eqb-true z y j) i) (λ j. beside q z a e i (eqb-false z y j)))
          (λ i. omega (
            arith,
            get_or-set_other by (line_room * p + y) (line_room * q + z) v 0 (λ k. no_way (omega (arith, eqb-false q p i))),
            counted.by_is q z a e,
            pick-false (d z) 0 i,
            pick-false (c z) 0 i,
          ));
      left_is = λ z e.
          by_test
          (eqb z y)
          (λ j. let k : z ≡ y = eqb-true z y j in
          omega (
            arith,
            ap (λ x. get_or (set left y w) x 0) k,
            get_or-set_same left y w 0 (omega (arith, counted.left_long)),
            ap d k,
            ap (crossing_open P μ) k,
            counted.left_is y b,
          ))
          (λ j. omega (
            arith,
            get_or-set_other left y z w 0 (eqb-false z y j),
            same z e (eqb-false z y j),
            counted.left_is z e,
          ));
    }
  where
    own :
        (q z : ℕ) → q ≡ p → z ≡ y → eqb q p ≡ true →
        get_or (set by (line_room * p + y) v) (line_room * q + z) 0 ≡ crossing_with P μ q z + pick (eqb q p) (d z) 0
    own q z i j h =
        let k : line_room * q + z ≡ line_room * p + y = omega arith in
        omega (
          arith,
          ap (λ x. get_or (set by (line_room * p + y) v) x 0) k,
          get_or-set_same by (line_room * p + y) v 0 (omega (arith, counted.by_long)),
          counted.by_is p y part b,
          pick_true (c y) 0 (eq-eqb p p refl),
          pick_true (d z) 0 h,
          ap d j,
          ap (λ x. crossing_with P μ x z) i,
          ap (crossing_with P μ p) j,
        )

    beside :
        (q z : ℕ) → q < 2 → z < lines P → eqb q p ≡ true → (z ≡ y → ⊥) →
        get_or (set by (line_room * p + y) v) (line_room * q + z) 0 ≡ crossing_with P μ q z + pick (eqb q p) (d z) 0
    beside q z a e h n =
        omega (
          arith,
          get_or-set_other by (line_room * p + y) (line_room * q + z) v 0 (λ k. n (omega (arith, eqb-true q p h))),
          counted.by_is q z a e,
          ap (λ (x : ℕ). pick (eqb q p) x 0) (same z e n),
        )

-- the kind of a line looks only at whether its counts are above 0
kind_of-some :
    (mark first second first' second' : ℕ) → ltb 0 first' ≡ ltb 0 first → ltb 0 second' ≡ ltb 0 second →
    kind_of mark first second ≡ kind_of mark first' second'
unfolding kind_of
kind_of-some mark first second first' second' e f = rw (e, f)

-- so a line keeps its kind where a count of it becomes v, unless v or what the count was is 0 and the other is not
pub kind_kept :
    {P : Pattern} {p y : ℕ} {marks by kinds : List ℕ} → p < 2 → y < lines P → length by ≡ 2 * line_room → lines P ≤ line_room → Agree P marks by kinds →
    (by' : List ℕ) (v : ℕ) → by' ≡ set by (line_room * p + y) v → ltb 0 v ≡ ltb 0 (get_or by (line_room * p + y) 0) →
    get_or kinds y 0 ≡ kind_of (get_or marks y 0) (get_or by' y 0) (get_or by' (line_room + y) 0)
kind_kept {P} {p} {y} {marks} {by} {kinds} part line long few agree by' v e same =
    agree.kind_is y line
    ∙ kind_of-some
    (get_or marks y 0)
    (get_or by y 0)
    (get_or by (line_room + y) 0)
    (get_or by' y 0)
    (get_or by' (line_room + y) 0)
    (above y)
    (above (line_room + y))
  where
    above : (k : ℕ) → ltb 0 (get_or by' k 0) ≡ ltb 0 (get_or by k 0)
    above k =
        by_test
        (eqb k (line_room * p + y))
        (λ d. let i = eqb-true k (line_room * p + y) d in
        rw (e, i) (ap (ltb 0) (get_or-set_same by (line_room * p + y) v 0 (omega arith)) ∙ same))
        (λ d. rw e (ap (ltb 0) (get_or-set_other by (line_room * p + y) k v 0 (eqb-false k (line_room * p + y) d))))

-- line l gets mark v, and is settled
pub stage_remarked :
    {P : Pattern} {μ : Marking} {p : ℕ} {c : ℕ → ℕ} {marks by left kinds kinds' tally tally' sums sums' : List ℕ} →
    (l v : ℕ) → lines P ≤ line_room → Stage P μ p c marks by left kinds tally sums →
    Settled (set marks l v) by kinds kinds' l → Tied P (cells kinds') (cells left) tally' sums' →
    Stage P μ p c (set marks l v) by left kinds' tally' sums'
stage_remarked {marks = marks} l v few stage settled tied =
    record {
      counts = stage.counts;
      agree = agree_settled
          few
          stage.agree
          (λ z b n. record { mark = get_or-set_other marks l z v 0 n; zeros = refl; ones = refl })
          settled;
      tied = tied;
    }

-- line y has v nonzeros taken by p and w cut or unmarked crossing lines, which makes another number taken besides, and is settled
pub stage_moved :
    {P : Pattern} {μ : Marking} {p : ℕ} {c : ℕ → ℕ} {marks by by' left left' kinds kinds' tally tally' sums sums' : List ℕ} {y : ℕ} →
    (v w : ℕ) → lines P ≤ line_room → p < 2 → y < lines P → Stage P μ p c marks by left kinds tally sums →
    by' ≡ set by (line_room * p + y) v → left' ≡ set left y w →
    Settled marks by' kinds kinds' y → Tied P (cells kinds') (cells left') tally' sums' → (d : ℕ → ℕ) →
    ((z : ℕ) → z < lines P → (z ≡ y → ⊥) → d z ≡ c z) →
    v + c y ≡ get_or by (line_room * p + y) 0 + d y → w + d y ≡ get_or left y 0 + c y →
    Stage P μ p d marks by' left' kinds' tally' sums'
stage_moved {p = p} {by = by} {y = y} v w few part b stage e f settled tied d same more less =
    record {
      counts = rw (e, f) (counted_at few part stage.counts d y v w b same more less);
      agree = agree_settled
          few
          stage.agree
          (λ z a n. record {
            mark = refl;
            zeros = rw e (get_or-set_other by (line_room * p + y) z v 0 (λ k. n (omega arith)));
            ones = rw e (get_or-set_other by (line_room * p + y) (line_room + z) v 0 (λ k. n (omega arith)));
          })
          settled;
      tied = tied;
    }
