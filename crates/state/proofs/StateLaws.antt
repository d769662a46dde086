-- The state check on the struct is the state check of document 01.
-- Assumes nothing.
use mathlib.Core.Bool.{Bool, true, false, not}
use mathlib.Core.List.{List, [], ◌∷◌}
use mathlib.Core.Path.{◌≡◌, refl, sym, ◌∙◌, ap}
use Prim.Native.Nat.{ℕ, zero, suc, ◌+◌, ◌≤◌}
use native.Mathlib.Omega.{arith}
use lib.Dec.{eqb, leb}
use lib.ListN.{length, get_or}
use borrow.Author.Tests.{eq-eqb, ne_eqb, eqb-true, leb-true, le-leb, not-true}
use Rattle.counting.specs.Tests.{◌and◌, pick}
use Rattle.counting.proofs.Joined.{no_way, clash, and_left, and_right, and_intro, pick_true, pick-false, and_fails_left, and_fails_right, and-turned, and_all}
use Rattle.trail.specs.declared.Trail.{Trail}
use Rattle.trail.specs.Trail.{mark_room, mark_or}
use Rattle.model.specs.declared.Search.{Search}
use Rattle.model.specs.Split.{caps_outside}
use Rattle.model.specs.Walk.{Rules, cuts, is_empty}
use Rattle.model.specs.State.{stack, marks_in, best_in, caps_in, record_of, are_marks, ones_allowed, beginnings_valid, trail_fine, best_fine, state_fine, counts_fine}
use Rattle.model.proofs.Order.SplitMarks.{stack-length}
use Rattle.marking.proofs.Trails.{marks_before_lem}
use Rattle.state.specs.Legal.{marks_legal, ones_legal, cuts_in}
use Rattle.state.specs.StateBy.{trail_by, full_by, best_by, numbers_by}

-- the marks of an array before an index that it has
marks_are : (trail : Trail) → trail.len ≤ mark_room → stack (mark_or 0 trail.marks) trail.len ≡ marks_in trail
unfolding marks_in
marks_are trail b = marks_before_lem trail.marks trail.len b

legal_is : (trail : Trail) → trail.len ≤ mark_room → marks_legal trail.marks trail.len ≡ are_marks (marks_in trail)
unfolding marks_legal
legal_is trail b = ap are_marks (marks_are trail b)

ones_are : (first : Bool) (trail : Trail) → trail.len ≤ mark_room → ones_legal first trail.marks trail.len ≡ ones_allowed first (marks_in trail)
unfolding ones_legal
ones_are first trail b = ap (ones_allowed first) (marks_are trail b)

pub cuts-is : (trail : Trail) → trail.len ≤ mark_room → cuts_in trail.marks trail.len ≡ cuts (marks_in trail)
unfolding cuts_in
cuts-is trail b = ap cuts (marks_are trail b)

pub marks_length : (trail : Trail) → length (marks_in trail) ≡ trail.len
unfolding marks_in
marks_length trail = stack-length (λ i. get_or trail.marks i 0) trail.len

pub empty_is : (τ : List ℕ) → is_empty τ ≡ eqb (length τ) 0
unfolding is_empty
empty_is [] = refl
empty_is (x ∷ τ) = sym (ne_eqb (length (x ∷ τ)) 0 (λ e. no_way (omega arith)))

marks_empty : (trail : Trail) → is_empty (marks_in trail) ≡ eqb trail.len 0
marks_empty trail = empty_is (marks_in trail) ∙ ap (λ (l : ℕ). eqb l 0) (marks_length trail)

swapped : (v l z : Bool) → v and l and z ≡ l and v and z
unfolding ◌and◌
swapped true true z = refl
swapped true false z = refl
swapped false true z = refl
swapped false false z = refl

turned : (v l z : Bool) → v and l and z ≡ l and z and v
unfolding ◌and◌
turned true true z = sym (and_all z true refl)
turned true false z = refl
turned false true true = refl
turned false true false = refl
turned false false z = refl

exchanged :
    (x v l z v' l' z' : Bool) → (x ≡ true → (v ≡ v') × (l ≡ l') × (z ≡ z')) → x and v and l and z ≡ x and l' and v' and z'
unfolding ◌and◌
exchanged true v l z v' l' z' h = let e = h refl in rw (e.0, e.1, e.2) (swapped v' l' z')
exchanged false v l z v' l' z' h = refl

some_marks : (trail : Trail) → not (is_empty (marks_in trail)) ≡ true → 1 ≤ trail.len
some_marks trail h = by_length trail.len refl
  where
    by_length : (l : ℕ) → trail.len ≡ l → 1 ≤ trail.len
    by_length zero e = clash (marks_empty trail ∙ eq-eqb trail.len 0 e) (not-true (is_empty (marks_in trail)) h)
    by_length (suc l) e = omega arith

-- tests in another order, equal where the ones before them pass
moved :
    (x v l z v' l' z' : Bool) → (x ≡ true → (v ≡ v') × (l ≡ l') × (z ≡ z')) → x and v and l and z ≡ x and l' and z' and v'
unfolding ◌and◌
moved true v l z v' l' z' h = let e = h refl in rw (e.0, e.1, e.2) (turned v' l' z')
moved false v l z v' l' z' h = refl

-- an empty trail exactly if complete; else as asked, where its longest proper beginning says whether all are valid
pub trail_is :
    (R : Rules) (complete : Bool) (trail : Trail) (valid : Bool) → R.k ≤ mark_room →
    (1 ≤ trail.len → trail.len ≤ R.k → valid ≡ beginnings_valid R (marks_in trail)) →
    trail_by complete trail R.k valid R.one_first ≡ trail_fine R complete (marks_in trail)
unfolding trail_by trail_fine
trail_is R true trail valid small v = sym (marks_empty trail)
trail_is R false trail valid small v =
    ap (λ (x : Bool). x and leb trail.len R.k and valid and marks_legal trail.marks trail.len and ones_legal R.one_first trail.marks trail.len) (ap not (sym (marks_empty trail)))
    ∙ ap (λ (l : ℕ). not (is_empty (marks_in trail)) and leb l R.k and valid and marks_legal trail.marks trail.len and ones_legal R.one_first trail.marks trail.len) (sym (marks_length trail))
    ∙ moved
    (not (is_empty (marks_in trail)) and leb (length (marks_in trail)) R.k)
    valid
    (marks_legal trail.marks trail.len)
    (ones_legal R.one_first trail.marks trail.len)
    (beginnings_valid R (marks_in trail))
    (are_marks (marks_in trail))
    (ones_allowed R.one_first (marks_in trail))
    (λ x.
    let some = and_left (not (is_empty (marks_in trail))) (leb (length (marks_in trail)) R.k) x in
    let short = leb-true (length (marks_in trail)) R.k (and_right (not (is_empty (marks_in trail))) (leb (length (marks_in trail)) R.k) x) in
    let within : trail.len ≤ R.k = omega (arith, marks_length trail) in (
      v (some_marks trail some) within,
      legal_is trail (omega arith),
      ones_are R.one_first trail (omega arith),
    ))

full_is :
    (R : Rules) (best : Trail) (valid : Bool) (count : ℕ) → R.k ≤ mark_room →
    (best.len ≡ R.k → valid ≡ R.valid (marks_in best)) →
    full_by best R.k valid count
    ≡ eqb (length (marks_in best)) R.k and are_marks (marks_in best) and R.valid (marks_in best) and eqb (cuts (marks_in best)) count
unfolding full_by
full_is R best valid count small v =
    ap (λ (l : ℕ). eqb l R.k and valid and marks_legal best.marks best.len and eqb (cuts_in best.marks best.len) count) (sym (marks_length best))
    ∙ exchanged
    (eqb (length (marks_in best)) R.k)
    valid
    (marks_legal best.marks best.len)
    (eqb (cuts_in best.marks best.len) count)
    (R.valid (marks_in best))
    (are_marks (marks_in best))
    (eqb (cuts (marks_in best)) count)
    (λ x.
    let e : best.len ≡ R.k = omega (arith, eqb-true (length (marks_in best)) R.k x, marks_length best) in
    (v e, legal_is best (omega arith), ap (λ (n : ℕ). eqb n count) (cuts-is best (omega arith))))

best_by_lem :
    (R : Rules) (s : Search) (valid : Bool) → R.k ≤ mark_room →
    (s.found ≡ true → s.best.len ≡ R.k → valid ≡ R.valid (marks_in s.best)) →
    (found : Bool) → s.found ≡ found →
    pick found (full_by s.best R.k valid s.best_count) (not s.complete and eqb s.best_count (R.k + 1))
    ≡ best_fine R (best_in found s.best) s.best_count s.complete
unfolding best_fine best_in
best_by_lem R s valid small v true e =
    pick_true (full_by s.best R.k valid s.best_count) _ refl
    ∙ full_is R s.best valid s.best_count small (v e)
best_by_lem R s valid small v false e =
    pick-false (full_by s.best R.k valid s.best_count) _ refl
    ∙ and-turned (not s.complete) (eqb s.best_count (R.k + 1))

-- a best marking as it should be, or none
pub best_is :
    (R : Rules) (s : Search) (valid : Bool) → R.k ≤ mark_room →
    (s.found ≡ true → s.best.len ≡ R.k → valid ≡ R.valid (marks_in s.best)) →
    best_by s R.k valid ≡ best_fine R (best_in s.found s.best) s.best_count s.complete
unfolding best_by
best_is R s valid small v = best_by_lem R s valid small v s.found refl

caps_turned : (x a b : Bool) → x and a and b ≡ x and b and a
unfolding ◌and◌
caps_turned true a b = and-turned a b
caps_turned false a b = refl

-- the tests of a state, joined
pub state_is :
    (R : Rules) (m n nonzeros : ℕ) (s : Search) (trail best : Bool) →
    trail ≡ trail_fine R s.complete (marks_in s.trail) →
    best ≡ best_fine R (best_in s.found s.best) s.best_count s.complete →
    numbers_by s m n nonzeros and trail and best ≡ state_fine R m n nonzeros (record_of s)
unfolding numbers_by state_fine record_of
state_is R m n nonzeros s trail best a b =
    λ i.
    caps_turned
    (eqb s.m m and eqb s.n n and eqb s.nonzeros nonzeros)
    (not (caps_outside (caps_in s)))
    (leb nonzeros (s.cap0 + s.cap1))
    i
    and counts_fine s.tries s.looks m nonzeros
    and a i
    and b i

-- the last of the tests of numbers
pub numbers_last :
    (s : Search) (m n nonzeros : ℕ) → s.m ≡ m → s.n ≡ n → s.nonzeros ≡ nonzeros → caps_outside (caps_in s) ≡ false →
    nonzeros ≤ s.cap0 + s.cap1 → counts_fine s.tries s.looks m nonzeros ≡ numbers_by s m n nonzeros
unfolding numbers_by ◌and◌
numbers_last s m n nonzeros a b c d e =
    sym
    (ap
    (λ (x : Bool). x and counts_fine s.tries s.looks m nonzeros)
    (and_intro
    (and_intro
    (and_intro (and_intro (eq-eqb s.m m a) (eq-eqb s.n n b)) (eq-eqb s.nonzeros nonzeros c))
    (ap not d))
    (le-leb nonzeros (s.cap0 + s.cap1) e)))

-- a best marking that is not valid is not full
pub never_full : (best : Trail) (k : ℕ) (valid : Bool) (count : ℕ) → valid ≡ false → false ≡ full_by best k valid count
unfolding full_by
never_full best k valid count h =
    sym (and_fails_left _ (and_fails_left _ (and_fails_right (eqb best.len k) h)))

-- nor is one of another length than k
pub other_length : (best : Trail) (k : ℕ) (valid : Bool) (count : ℕ) → (best.len ≡ k → ⊥) → false ≡ full_by best k valid count
unfolding full_by ◌and◌
other_length best k valid count h = simp (ne_eqb _ _ h)
