-- Laws of checks made one after another, and what the checks of sizes and of a nonzero tell where they refuse nothing.
-- Assumes nothing.
use Rattle.std.specs.Prelude.{Result, Ok, Err}
use mathlib.Core.Bool.{Bool, true, false, not}
use mathlib.Core.List.{List}
use mathlib.Core.Path.{◌≡◌, refl, sym, ◌∙◌, ap}
use mathlib.Core.Logic.{⊎_elim}
use Prim.Native.Nat.{ℕ, zero, suc, ◌+◌, ◌*◌, ◌≤◌, ◌<◌}
use native.Mathlib.Nat.{eq-or-lt_of_le, le_of_suc-le-suc}
use native.Mathlib.Numerals.{add-one}
use native.Mathlib.Omega.{arith}
use lib.Dec.{eqb, ltb, leb}
use borrow.Author.Tests.{ltb-false, leb-false, eqb-false, not-false}
use Rattle.counting.specs.Tests.{◌or◌}
use Rattle.counting.proofs.Joined.{no_way, or_fails_left, or_fails_right, never}
use Rattle.model.specs.declared.Word.{Word}
use Rattle.model.specs.declared.Word.TheVariants.{TooBig, OffMatrix, Order, SplitNumber}
use Rattle.model.specs.declared.Refusal.{Refusal}
use Rattle.model.specs.Limits.{line_limit, nonzero_limit}
use Rattle.model.specs.Refusal.{verdict_in, Verdict, accepted, refused, refuse, ◌then◌, each_verdict}
use Rattle.model.specs.Pattern.{row_in, column_in}
use Rattle.model.specs.Calls.{outside, sizes_verdict, rises, split_number, off_matrix, entry_verdict}

-- a refusal is no acceptance
pub refused_not : {A : Type 0} {word : Word} {place : ℕ} → refused word place ≡ accepted → A
refused_not e = never (cc)

-- a refusal has one word and one place
pub one_refusal :
    {A : Type 0} {word other : Word} {place at : ℕ} → refused {A = A} word place ≡ refused other at → (word ≡ other) × (place ≡ at)
one_refusal {word = word} {other = other} {place = place} {at = at} e =
    let same : ◌≡◌ {A = Refusal} (record { word = word; place = place }) (record { word = other; place = at }) = cc in
    (ap (λ (r : Refusal). r.word) same, ap (λ (r : Refusal). r.place) same)

-- a check whose test passes refuses, and one whose test fails does not
pub refuse_so : {test : Bool} (word : Word) (place : ℕ) → test ≡ true → refuse test word place ≡ refused word place
refuse_so word place h = rw h

pub refuse_no : {test : Bool} (word : Word) (place : ℕ) → test ≡ false → refuse test word place ≡ accepted
refuse_no word place h = rw h

-- the test of a check that refuses nothing fails
pub refuse-not : (test : Bool) (word : Word) (place : ℕ) → refuse test word place ≡ accepted → test ≡ false
refuse-not true word place h = refused_not h
refuse-not false word place h = refl

-- one word and place for two tests: the checks of each
pub refuse_either :
    (a b : Bool) (word : Word) (place : ℕ) → refuse (a or b) word place ≡ refuse a word place then refuse b word place
unfolding ◌or◌
refuse_either true b word place = refl
refuse_either false b word place = refl

-- after a check that refuses nothing, the next one counts
pub then_accepted : {A : Type 0} {v : Verdict} (w : Result A Refusal) → v ≡ accepted → v then w ≡ w
then_accepted w h = rw h

-- after a refusal nothing else counts
pub then_refused :
    {A : Type 0} {v : Verdict} {word : Word} {place : ℕ} (w : Result A Refusal) → v ≡ refused word place → v then w ≡ refused word place
then_refused w h = rw h

-- checks that refuse nothing, one after the other
pub then-first : (v w : Verdict) → v then w ≡ accepted → v ≡ accepted
then-first (Ok _) w h = refl
then-first (Err refusal) w h = h

pub then-second : (v w : Verdict) → v then w ≡ accepted → w ≡ accepted
then-second (Ok _) w h = h
then-second (Err refusal) w h = refused_not h

-- a check that refuses nothing adds nothing
pub then-rest : (v : Verdict) {w : Verdict} → w ≡ accepted → v then w ≡ v
then-rest (Ok _) h = h
then-rest (Err refusal) h = refl

-- what is refused was refused by its checks, and what is answered passed them
pub refused_by : {A : Type 0} (v : Verdict) (value : A) {refusal : Refusal} → v then Ok value ≡ Err refusal → v ≡ Err refusal
refused_by (Ok _) value h = never (cc)
refused_by (Err other) value h = cc

pub answered_by : {A : Type 0} (v : Verdict) (value : A) {given : A} → v then Ok value ≡ Ok given → (v ≡ accepted) × (value ≡ given)
answered_by (Ok _) value h = (refl, cc)
answered_by (Err refusal) value h = never (cc)

-- the verdict of an answer is that of its checks
pub verdict_back : {A : Type 0} (v : Verdict) (value : A) → verdict_in (v then Ok value) ≡ v
verdict_back (Ok _) value = refl
verdict_back (Err refusal) value = refl

-- checks may be grouped
pub then_assoc : (u v w : Verdict) → u then v then w ≡ u then (v then w)
then_assoc (Ok _) v w = refl
then_assoc (Err refusal) v w = refl

-- checks of numbers that refuse nothing refuse none of them
pub each_accepted : (check : ℕ → Verdict) (n t : ℕ) → each_verdict check n ≡ accepted → t < n → check t ≡ accepted
unfolding each_verdict
each_accepted check zero t h b = no_way (omega arith)
each_accepted check (suc n) t h b =
    ⊎_elim
    (λ e. ap check e ∙ then-second (each_verdict check n) (check n) h)
    (λ l. each_accepted check n t (then-first (each_verdict check n) (check n) h) l)
    (eq-or-lt_of_le (le_of_suc-le-suc b))

-- and the other way round
pub each_fine : (check : ℕ → Verdict) (n : ℕ) → ((t : ℕ) → t < n → check t ≡ accepted) → each_verdict check n ≡ accepted
unfolding each_verdict
each_fine check zero h = refl
each_fine check (suc n) h = then_accepted (check n) (each_fine check n (λ t l. h t (omega arith))) ∙ h n (omega arith)

-- one number more
pub each_more :
    (check : ℕ → Verdict) (t : ℕ) → each_verdict check t ≡ accepted → check t ≡ accepted →
    each_verdict check (t + 1) ≡ accepted
unfolding each_verdict
each_more check t h e = rw add-one (then_accepted (check t) h ∙ e)

-- the first refusal is that of every larger count
pub each-stop :
    (check : ℕ → Verdict) (t : ℕ) (refusal : Refusal) (n : ℕ) →
    each_verdict check t ≡ accepted → check t ≡ Err refusal → t < n → each_verdict check n ≡ Err refusal
unfolding each_verdict
each-stop check t refusal zero h e b = no_way (omega arith)
each-stop check t refusal (suc k) h e b =
    ⊎_elim
    (λ q. ap (λ x. each_verdict check x then check x) (sym q) ∙ then_accepted (check t) h ∙ e)
    (λ l. ap (λ v. v then check k) (each-stop check t refusal k h e l))
    (eq-or-lt_of_le (le_of_suc-le-suc b))

-- a number that is not outside lies in its range
pub in_range : (limit x : ℕ) → outside limit x ≡ false → (1 ≤ x) × (x ≤ limit)
unfolding outside
in_range limit x h =
    let some = eqb-false x 0 (or_fails_left (eqb x 0) (ltb limit x) h) in
    let few = ltb-false limit x (or_fails_right (eqb x 0) (ltb limit x) h) in
    (omega arith, few)

-- sizes that are accepted: check 4
module _ (m n nonzeros : ℕ) (h : sizes_verdict m n nonzeros ≡ accepted) where
  all_fail : outside line_limit m or outside line_limit n or ltb nonzero_limit nonzeros or ltb (m * n) nonzeros ≡ false
  unfolding sizes_verdict
  all_fail = refuse-not _ TooBig 0 h

  size_fails : outside line_limit m or outside line_limit n or ltb nonzero_limit nonzeros ≡ false
  size_fails = or_fails_left _ (ltb (m * n) nonzeros) all_fail

  lines_fail : outside line_limit m or outside line_limit n ≡ false
  lines_fail = or_fails_left _ (ltb nonzero_limit nonzeros) size_fails

  pub rows_range : (1 ≤ m) × (m ≤ line_limit)
  rows_range = in_range line_limit m (or_fails_left (outside line_limit m) (outside line_limit n) lines_fail)

  pub columns_range : (1 ≤ n) × (n ≤ line_limit)
  columns_range = in_range line_limit n (or_fails_right (outside line_limit m) (outside line_limit n) lines_fail)

  pub nonzeros_small : nonzeros ≤ nonzero_limit
  nonzeros_small = ltb-false nonzero_limit nonzeros (or_fails_right (outside line_limit m or outside line_limit n) _ size_fails)

  pub nonzeros_fit : nonzeros ≤ m * n
  nonzeros_fit =
      ltb-false
      (m * n)
      nonzeros
      (or_fails_right (outside line_limit m or outside line_limit n or ltb nonzero_limit nonzeros) _ all_fail)

-- a nonzero that is accepted: checks 17, 5 and 10
module _ (m n : ℕ) (list : List ℕ) (t : ℕ) (h : entry_verdict m n list t ≡ accepted) where
  before_order : refuse (split_number list t) SplitNumber t then refuse (off_matrix m n list t) OffMatrix t ≡ accepted
  unfolding entry_verdict
  before_order = then-first _ (refuse (not (rises list t)) Order t) h

  on_matrix : leb m (row_in list t) or leb n (column_in list t) ≡ false
  unfolding off_matrix
  on_matrix = refuse-not _ OffMatrix t (then-second (refuse (split_number list t) SplitNumber t) _ before_order)

  pub entry_row : row_in list t < m
  entry_row = leb-false m (row_in list t) (or_fails_left _ (leb n (column_in list t)) on_matrix)

  pub entry_column : column_in list t < n
  entry_column = leb-false n (column_in list t) (or_fails_right (leb m (row_in list t)) _ on_matrix)

  pub entry_rises : rises list t ≡ true
  unfolding entry_verdict
  entry_rises =
      not-false
      (rises list t)
      (refuse-not _ Order t (then-second (refuse (split_number list t) SplitNumber t then refuse (off_matrix m n list t) OffMatrix t) _ h))
