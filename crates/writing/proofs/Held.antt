-- What a text holds from a place on, and how stretches and numbers go over it: the ground for reading back what was written.
-- Assumes nothing.
use mathlib.Core.Bool.{Bool, true}
use Rattle.std.specs.Prelude.{Some}
use mathlib.Core.List.{List, [], ◌∷◌, ◌++◌}
use mathlib.Core.Path.{◌≡◌, refl, sym, ◌∙◌, ap}
use Prim.Native.Nat.{ℕ, zero, suc, ◌+◌, ◌-◌, ◌/◌, ◌%◌, ◌^◌, ◌≤◌, ◌<◌}
use native.Mathlib.Nat.{mod-lt, div-add-mod', pow-suc, pow-zero}
use native.Mathlib.Omega.{arith}
use lib.ListN.{length, get_or, length-append, get_or-append}
use lib.Seq.{get_or-append-add}
use borrow.Author.Tests.{lt-ltb, le-leb, eq-eqb}
use Rattle.counting.specs.Tests.{◌and◌}
use Rattle.counting.proofs.Joined.{no_way, and_left, and_right, and_intro, pick_true}
use Rattle.scanning.specs.declared.Class.TheVariants.{Digit}
use Rattle.scanning.specs.declared.Stretch.{Stretch}
use Rattle.scanning.specs.declared.Stretch.TheVariants.{Blanks, Nonblanks, Digits}
use Rattle.scanning.specs.Classes.{class_of, stretches_over, digit_of}
use Rattle.scanning.specs.Lines.{stretches_at, stretch_end}
use Rattle.scanning.specs.Words.{is_number, value_of, number_between, word_at, number_at}
use Rattle.scanning.proofs.Bytes.{between_in}
use Rattle.scanning.proofs.Scans.{stretch_on, stretch_over, number_found}
use Rattle.writing.specs.Written.{decimals}
use Rattle.writing.proofs.Decimals.{decimals-some, decimals_fit, decimals_below}
use Rattle.writing.proofs.Padded.{padded, length-padded, decimals-padded}

-- a text holds these bytes from a place on
pub record Holds (text : List ℕ) (at : ℕ) (bytes : List ℕ) : Type 0 where
  pub at_each : (i : ℕ) → i < length bytes → get_or text (at + i) 0 ≡ get_or bytes i 0

pub holds-left : (s t : List ℕ) {text : List ℕ} {at : ℕ} → Holds text at (s ++ t) → Holds text at s
holds-left s t {text} {at} h =
    record {
      at_each = λ i l. h.at_each i (omega (arith, length-append s t)) ∙ get_or-append s t 0 i l;
    }

pub holds_right : (s t : List ℕ) {text : List ℕ} {at : ℕ} → Holds text at (s ++ t) → Holds text (at + length s) t
holds_right s t {text} {at} h =
    record {
      at_each =
          λ i l. let e : at + length s + i ≡ at + (length s + i) = omega arith in
          ap (λ k. get_or text k 0) e ∙ h.at_each (length s + i) (omega (arith, length-append s t)) ∙ get_or-append-add s t i 0;
    }

pub holds_itself : (before text : List ℕ) → Holds (before ++ text) (length before) text
holds_itself before text = record { at_each = λ i l. get_or-append-add before text i 0 }

-- every byte passes the test
unfoldable pub every : (ℕ → Bool) → List ℕ → Bool
every test [] = true
every test (b ∷ bytes) = test b and every test bytes

pub every_append : (test : ℕ → Bool) (s t : List ℕ) → every test s ≡ true → every test t ≡ true → every test (s ++ t) ≡ true
unfolding every
every_append test [] t p q = q
every_append test (b ∷ s) t p q =
    and_intro (and_left (test b) (every test s) p) (every_append test s t (and_right (test b) (every test s) p) q)

pub every_at : (test : ℕ → Bool) (s : List ℕ) (i : ℕ) → every test s ≡ true → i < length s → test (get_or s i 0) ≡ true
unfolding every
every_at test [] i p l = no_way (omega arith)
every_at test (b ∷ s) zero p l = and_left (test b) (every test s) p
every_at test (b ∷ s) (suc i) p l = every_at test s i (and_right (test b) (every test s) p) (omega arith)

-- a stretch goes over bytes that it goes on over
pub stretch_through :
    (stretch : Stretch) (text bytes : List ℕ) (at stop k : ℕ) → Holds text at bytes → every (λ b. stretches_over stretch (class_of b)) bytes ≡ true →
    at + length bytes ≤ stop → k ≤ length bytes → stretch_end stretch text at stop ≡ stretch_end stretch text (at + k) stop
unfolding stretches_at
stretch_through stretch text bytes at stop zero h p r l =
    let e : at ≡ at + 0 = omega arith in
    ap (λ x. stretch_end stretch text x stop) e
stretch_through stretch text bytes at stop (suc k) h p r l =
    let e : at + k + 1 ≡ at + suc k = omega arith in
    stretch_through stretch text bytes at stop k h p r (omega arith)
    ∙ stretch_on stretch text (at + k) stop (omega arith) (ap (λ b. stretches_over stretch (class_of b)) (h.at_each k (omega arith)) ∙ every_at (λ b. stretches_over stretch (class_of b)) bytes k p (omega arith))
    ∙ ap (λ x. stretch_end stretch text x stop) e

pub stretch_whole :
    (stretch : Stretch) (text bytes : List ℕ) (at stop : ℕ) → Holds text at bytes → every (λ b. stretches_over stretch (class_of b)) bytes ≡ true →
    at + length bytes ≤ stop → stretch_end stretch text at stop ≡ stretch_end stretch text (at + length bytes) stop
stretch_whole stretch text bytes at stop h p r = stretch_through stretch text bytes at stop (length bytes) h p r (omega arith)

-- a digit's byte
pub digit_class : (d : ℕ) → d < 10 → class_of (48 + d) ≡ Digit
unfolding class_of
digit_class d l = pick_true Digit _ (between_in 48 57 (48 + d) (omega arith) (omega arith))

pub digit_value : (d : ℕ) → d < 10 → digit_of (48 + d) ≡ d
unfolding digit_of
digit_value d l =
    let e : 48 + d - 48 ≡ d = omega arith in
    pick_true (48 + d - 48) 0 (between_in 48 57 (48 + d) (omega arith) (omega arith)) ∙ e

-- the digits of a number are digits, and no other class
padded-every :
    (test : ℕ → Bool) → ((d : ℕ) → d < 10 → test (48 + d) ≡ true) → (k n : ℕ) → every test (padded k n) ≡ true
unfolding padded every
padded-every test h zero n = refl
padded-every test h (suc k) n =
    every_append test (padded k (n / 10)) ((48 + n % 10) ∷ []) (padded-every test h k (n / 10)) (and_intro (h (n % 10) (mod-lt n (omega arith))) refl)

pub decimals-every :
    (test : ℕ → Bool) → ((d : ℕ) → d < 10 → test (48 + d) ≡ true) → (k n : ℕ) → every test (decimals k n) ≡ true
decimals-every test h k n = ap (every test) (decimals-padded k n) ∙ padded-every test h (length (decimals k n)) n

-- the last of some bytes
at_end : (xs : List ℕ) (x : ℕ) → get_or (xs ++ (x ∷ [])) (length xs) 0 ≡ x
at_end [] x = refl
at_end (y ∷ xs) x = at_end xs x

pub holds_as : {text s t : List ℕ} {at : ℕ} → s ≡ t → Holds text at s → Holds text at t
holds_as e h = rw e at h

-- the value of the digits that were written is the number
value_padded : (text : List ℕ) (from k n : ℕ) → Holds text from (padded k n) → n < 10 ^ k → value_of text from k ≡ n
unfolding padded value_of
value_padded text from zero n h l = omega (arith, pow-zero 10)
value_padded text from (suc k) n h l =
    let before = padded k (n / 10) in
    let size = length-padded k (n / 10) in
    let value = value_padded text from k (n / 10) (holds-left before ((48 + n % 10) ∷ []) h) (omega (arith, pow-suc 10 k)) in
    let there : get_or text (from + k) 0 ≡ 48 + n % 10 =
    ap (λ x. get_or text (from + x) 0) (sym size)
    ∙ h.at_each (length before) (omega (arith, length-append before ((48 + n % 10) ∷ [])))
    ∙ at_end before (48 + n % 10) in
    omega (arith, value, div-add-mod' n 10, ap digit_of there ∙ digit_value (n % 10) (mod-lt n (omega arith)))

pub value_written :
    (text : List ℕ) (from k n : ℕ) → Holds text from (decimals k n) → n < 10 ^ k → value_of text from (length (decimals k n)) ≡ n
value_written text from k n h l =
    value_padded text from (length (decimals k n)) n (holds_as (decimals-padded k n) h) (decimals_below k n l)

-- what stretches do at a digit
digit_goes : (stretch : Stretch) (d : ℕ) → d < 10 → stretches_over stretch Digit ≡ true → stretches_over stretch (class_of (48 + d)) ≡ true
digit_goes stretch d l h = ap (stretches_over stretch) (digit_class d l) ∙ h

pub stretch_number :
    (stretch : Stretch) (text : List ℕ) (from stop k n : ℕ) → stretches_over stretch Digit ≡ true → Holds text from (decimals k n) →
    from + length (decimals k n) ≤ stop → stretch_end stretch text from stop ≡ stretch_end stretch text (from + length (decimals k n)) stop
stretch_number stretch text from stop k n g h r =
    stretch_whole stretch text (decimals k n) from stop h (decimals-every (λ b. stretches_over stretch (class_of b)) (λ d l. digit_goes stretch d l g) k n) r

-- a number that was written is a number, and reads as its value
module _
    (text : List ℕ) (at end from n : ℕ) (blanks : stretch_end Blanks text at end ≡ from) (held : Holds text from (decimals 20 n))
    (small : n < 10 ^ 9) (inside : from + length (decimals 20 n) ≤ end)
    (ends : stretch_end Nonblanks text (from + length (decimals 20 n)) end ≡ from + length (decimals 20 n)) where
  stops : stretch_end Nonblanks text from end ≡ from + length (decimals 20 n)
  stops = stretch_number Nonblanks text from end 20 n refl held inside ∙ ends

  is-number : is_number text from (from + length (decimals 20 n)) ≡ true
  unfolding is_number
  is-number =
      let len = length (decimals 20 n) in
      let one = decimals-some 19 n in
      let nine = decimals_fit 20 8 n small in
      let digits = stretch_number Digits text from (from + len) 20 n refl held (omega arith) ∙ stretch_over Digits text (from + len) (from + len) (omega arith) in
      and_intro
      (lt-ltb from (from + len) (omega arith))
      (and_intro (le-leb (from + len - from) 9 (omega arith)) (eq-eqb (stretch_end Digits text from (from + len)) (from + len) digits))

  its_value : number_between text from (from + length (decimals 20 n)) ≡ Some n
  its_value =
      let len = length (decimals 20 n) in
      let e : from + len - from ≡ len = omega arith in
      let big : n < 10 ^ 20 = omega arith in
      number_found text from (from + len) is-number ∙ ap (λ k. Some (value_of text from k)) e ∙ ap Some (value_written text from 20 n held big)

  pub number-back : number_at text at end ≡ (record { value = Some n; stop = from + length (decimals 20 n) })
  unfolding number_at word_at
  number-back = rw (blanks, stops, its_value)
