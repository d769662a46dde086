-- Laws of stretches, lines, words and numbers, as the loops go through them.
-- Assumes nothing.
use mathlib.Core.Bool.{Bool, true, false}
use mathlib.Core.List.{List}
use Rattle.std.specs.Prelude.{Some, None}
use mathlib.Core.Path.{◌≡◌, refl, sym, ◌∙◌, ap}
use Prim.Native.Nat.{ℕ, zero, suc, ◌+◌, ◌-◌, ◌*◌, ◌^◌, ◌≤◌, ◌<◌}
use native.Mathlib.Nat.{pow-suc, pow-zero, pow-le-pow_right}
use native.Mathlib.Numerals.{add-one}
use native.Mathlib.Omega.{arith}
use lib.Dec.{ltb, leb}
use lib.ListN.{length, get_or}
use borrow.Author.Tests.{ltb-true, ltb-false, leb-true, lt-ltb, le-ltb}
use Rattle.counting.proofs.Joined.{by_test, and_left, and_right, and_fails_left, pick_true, pick-false}
use Rattle.scanning.specs.declared.Stretch.{Stretch}
use Rattle.scanning.specs.declared.Stretch.TheVariants.{Line}
use Rattle.scanning.specs.Classes.{between, digit_of}
use Rattle.scanning.specs.Lines.{past, stretches_at, stretch_end, line_stop, has_return, line_end, line_next, skipped, size_line_at}
use Rattle.scanning.specs.Words.{is_number, value_of, number_between}

-- the first number that fails comes no earlier than the start
pub past_after : (test : ℕ → Bool) (at k : ℕ) → at ≤ past test at k
unfolding past
past_after test at zero = omega arith
past_after test at (suc k) =
    by_test
    (test at)
    (λ e. omega (arith, ap (λ x. x) (pick_true (past test (at + 1) k) at e), past_after test (at + 1) k))
    (λ e. omega (arith, pick-false (past test (at + 1) k) at e))

-- the start fails
pub past_here : (test : ℕ → Bool) (at k : ℕ) → test at ≡ false → past test at k ≡ at
unfolding past
past_here test at zero e = refl
past_here test at (suc k) e = pick-false (past test (at + 1) k) at e

-- nothing is left to look at
pub past_end : (test : ℕ → Bool) (at stop : ℕ) → stop ≤ at → past test at (stop - at) ≡ at
unfolding past
past_end test at stop h =
    let e : stop - at ≡ 0 = omega arith in
    ap (past test at) e

-- the start passes
pub past_on :
    (test : ℕ → Bool) (at stop : ℕ) → at < stop → test at ≡ true →
    past test at (stop - at) ≡ past test (at + 1) (stop - (at + 1))
unfolding past
past_on test at stop h e =
    let q : stop - at ≡ suc (stop - (at + 1)) = omega arith in
    ap (past test at) q ∙ pick_true (past test (at + 1) (stop - (at + 1))) at e

module _ (stretch : Stretch) (text : List ℕ) (at stop : ℕ) where
  pub stretch_here : stretches_at stretch text at ≡ false → stretch_end stretch text at stop ≡ at
  unfolding stretch_end
  stretch_here e = past_here (stretches_at stretch text) at (stop - at) e

  pub stretch_over : stop ≤ at → stretch_end stretch text at stop ≡ at
  unfolding stretch_end
  stretch_over h = past_end (stretches_at stretch text) at stop h

  pub stretch_on : at < stop → stretches_at stretch text at ≡ true → stretch_end stretch text at stop ≡ stretch_end stretch text (at + 1) stop
  unfolding stretch_end
  stretch_on h e = past_on (stretches_at stretch text) at stop h e

  pub stretch_after : at ≤ stretch_end stretch text at stop
  unfolding stretch_end
  stretch_after = past_after (stretches_at stretch text) at (stop - at)

-- a line is not empty of bytes: the next one starts later
pub next_after : (text : List ℕ) (at : ℕ) → at < length text → at < line_next text at
unfolding line_next line_stop
next_after text at h =
    let stop = stretch_end Line text at (length text) in
    let a : at ≤ stop = stretch_after Line text at (length text) in
    by_test
    (ltb stop (length text))
    (λ e. omega (arith, pick_true (stop + 1) stop e))
    (λ e. omega (arith, pick-false (stop + 1) stop e, ltb-false stop (length text) e))

-- past the text's end nothing is skipped
skipped-past : (text : List ℕ) (at : ℕ) → length text ≤ at → skipped text at ≡ false
unfolding skipped
skipped-past text at h = and_fails_left _ (le-ltb at (length text) h)

pub skipped_below : (text : List ℕ) (at : ℕ) → skipped text at ≡ true → at < length text
unfolding skipped
skipped_below text at h = ltb-true at (length text) (and_left (ltb at (length text)) _ h)

-- enough lines looked at are as good as more
size_fuel :
    (text : List ℕ) (k j at : ℕ) → length text ≤ at + k → length text ≤ at + j →
    size_line_at text k at ≡ size_line_at text j at
unfolding size_line_at
size_fuel text zero zero at a b = refl
size_fuel text zero (suc j) at a b =
    sym (pick-false (size_line_at text j (line_next text at)) at (skipped-past text at (omega arith)))
size_fuel text (suc k) zero at a b =
    pick-false (size_line_at text k (line_next text at)) at (skipped-past text at (omega arith))
size_fuel text (suc k) (suc j) at a b =
    by_test
    (skipped text at)
    (λ e. let l = next_after text at (skipped_below text at e) in
    pick_true (size_line_at text k (line_next text at)) at e
    ∙ size_fuel text k j (line_next text at) (omega arith) (omega arith)
    ∙ sym (pick_true (size_line_at text j (line_next text at)) at e))
    (λ e. pick-false (size_line_at text k (line_next text at)) at e
    ∙ sym (pick-false (size_line_at text j (line_next text at)) at e))

pub size_on :
    (text : List ℕ) (at : ℕ) → skipped text at ≡ true →
    size_line_at text (length text) at ≡ size_line_at text (length text) (line_next text at)
unfolding size_line_at
size_on text at e =
    size_fuel text (length text) (suc (length text)) at (omega arith) (omega arith)
    ∙ pick_true (size_line_at text (length text) (line_next text at)) at e

pub size_here : (text : List ℕ) (k at : ℕ) → skipped text at ≡ false → size_line_at text k at ≡ at
unfolding size_line_at
size_here text zero at e = refl
size_here text (suc k) at e = pick-false (size_line_at text k (line_next text at)) at e

-- numbers
module _ (text : List ℕ) (from stop : ℕ) where
  pub number_long : is_number text from stop ≡ true → stop - from ≤ 9
  unfolding is_number
  number_long h = leb-true (stop - from) 9 (and_left (leb (stop - from) 9) _ (and_right (ltb from stop) _ h))

  pub number_start : is_number text from stop ≡ true → from < stop
  unfolding is_number
  number_start h = ltb-true from stop (and_left (ltb from stop) _ h)

  pub number_found : is_number text from stop ≡ true → number_between text from stop ≡ Some (value_of text from (stop - from))
  unfolding number_between
  number_found h = pick_true (Some (value_of text from (stop - from))) None h

pub digit_small : (b : ℕ) → digit_of b ≤ 9
unfolding digit_of between
digit_small b =
    by_test
    (between 48 57 b)
    (λ e. let h = leb-true b 57 (and_right (leb 48 b) (leb b 57) e) in omega (arith, pick_true (b - 48) 0 e))
    (λ e. omega (arith, pick-false (b - 48) 0 e))

value_more : (text : List ℕ) (from k : ℕ) → value_of text from (k + 1) ≡ value_of text from k * 10 + digit_of (get_or text (from + k) 0)
unfolding value_of
value_more text from k = rw add-one

-- the value with one digit more
pub value_next :
    (text : List ℕ) (from i : ℕ) → from ≤ i →
    value_of text from (i + 1 - from) ≡ value_of text from (i - from) * 10 + digit_of (get_or text i 0)
value_next text from i h =
    let e : i + 1 - from ≡ i - from + 1 = omega arith in
    let f : from + (i - from) ≡ i = omega arith in
    ap (value_of text from) e ∙ value_more text from (i - from) ∙ ap (λ k. value_of text from (i - from) * 10 + digit_of (get_or text k 0)) f

pub value_start : (text : List ℕ) (from : ℕ) → value_of text from (from - from) ≡ 0
unfolding value_of
value_start text from =
    let e : from - from ≡ 0 = omega arith in
    ap (value_of text from) e

-- so many digits are below that power of ten
value_below : (text : List ℕ) (from k : ℕ) → value_of text from k < 10 ^ k
unfolding value_of
value_below text from zero = omega (arith, pow-zero 10)
value_below text from (suc k) =
    omega (arith, pow-suc 10 k, value_below text from k, digit_small (get_or text (from + k) 0))

pub value_small : (text : List ℕ) (from k : ℕ) → k ≤ 8 → value_of text from k < 100_000_000
value_small text from k h =
    let p : 10 ^ k ≤ 10 ^ 8 = pow-le-pow_right (omega arith) h in
    omega (arith, value_below text from k)

-- a line with a CR before its LF is not empty
pub return_after : (text : List ℕ) (at stop : ℕ) → has_return text at stop ≡ true → at < stop
unfolding has_return
return_after text at stop h = ltb-true at stop (and_left (ltb at stop) _ (and_right (ltb stop (length text)) _ h))

-- where a line ends, and where the next one starts
module _ (text : List ℕ) (at stop : ℕ) (e : stop ≡ line_stop text at) where
  pub end_without : has_return text at stop ≡ false → stop ≡ line_end text at
  unfolding line_end
  end_without h =
      e ∙ sym (pick-false (line_stop text at - 1) (line_stop text at) (ap (has_return text at) (sym e) ∙ h))

  pub next_more : stop < length text → stop + 1 ≡ line_next text at
  unfolding line_next
  next_more h =
      ap (λ s. s + 1) e
      ∙ sym (pick_true (line_stop text at + 1) (line_stop text at) (lt-ltb (line_stop text at) (length text) (omega arith)))

  pub next-none : length text ≤ stop → stop ≡ line_next text at
  unfolding line_next
  next-none h =
      e ∙ sym (pick-false (line_stop text at + 1) (line_stop text at) (le-ltb (line_stop text at) (length text) (omega arith)))
