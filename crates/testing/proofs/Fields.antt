-- The fields of cases, one letter or one byte after the other.
-- Assumes nothing.
use mathlib.Core.Bool.{true, false}
use mathlib.Core.List.{List}
use mathlib.Core.Path.{◌≡◌, refl}
use Prim.Native.Nat.{ℕ, zero, suc, ◌≤◌, ◌<◌, ◌+◌, ◌-◌}
use native.Mathlib.Numerals.{add-one}
use native.Mathlib.Omega.{arith}
use lib.ListN.{length, get_or, drop, drop_of_length-le}
use lib.Seq.{drop-cons}
use Rattle.counting.specs.Tests.{pick}
use Rattle.counting.proofs.Joined.{pick_true, pick-false}
use Rattle.testing.specs.declared.Field.{Field}
use Rattle.testing.specs.declared.Kind.{Kind}
use Rattle.testing.specs.Laid.{place_past, laid}
use Rattle.testing.specs.Cases.{ends_field, field_of, is_digit, grown, digits_from, given, bytes_of, field_from, field_at}

-- the digits end before a letter that is none
pub digits-here : (cases : List ℕ) (value next : ℕ) → next < length cases → is_digit (get_or cases next 0) ≡ false → digits_from value next (drop next cases) ≡ record { value = value; next = next }
unfolding digits_from pick
digits-here cases value next h e = rw (drop-cons cases next 0, e)

-- they go on over a digit
pub digits-on : (cases : List ℕ) (value next : ℕ) → next < length cases → is_digit (get_or cases next 0) ≡ true → digits_from value next (drop next cases) ≡ digits_from (grown value (get_or cases next 0)) (next + 1) (drop (next + 1) cases)
unfolding digits_from pick
digits-on cases value next h e = rw (drop-cons cases next 0, e, add-one next)

-- they end with the cases
pub digits_over : (cases : List ℕ) (value next : ℕ) → length cases ≤ next → digits_from value next (drop next cases) ≡ record { value = value; next = next }
unfolding digits_from
digits_over cases value next h = rw (drop_of_length-le cases {i = next} h)

-- a field from its start on
pub field_all : (kind : Kind) (cases page : List ℕ) (at : ℕ) → field_from kind cases page 0 at (length cases - 0) ≡ field_at kind cases at page
unfolding field_at
field_all kind cases page at = let all : length cases - 0 ≡ length cases = omega arith in rw all

-- it ends before a bar or a line feed
pub field_here : (kind : Kind) (cases page : List ℕ) (len at k : ℕ) → ends_field (get_or cases at 10) ≡ true → field_from kind cases page len at k ≡ (field_of cases len at, page)
unfolding field_from
field_here kind cases page len at zero e = refl
field_here kind cases page len at (suc k) e = pick_true _ _ e

-- it goes on over what is given
pub field_on : (kind : Kind) (cases page : List ℕ) (len at turn n : ℕ) (next : Field) → turn < n → ends_field (get_or cases at 10) ≡ false → next ≡ given cases at kind → field_from kind cases page len at (n - turn) ≡ field_from kind cases (laid page len (bytes_of kind next.value)) (place_past len (bytes_of kind next.value)) next.next (n - (turn + 1))
unfolding field_from
field_on kind cases page len at turn n next h e g =
    let left : n - turn ≡ suc (n - (turn + 1)) = omega (arith, h) in
    rw (left, g) (pick-false _ _ e)

-- it ends with the last turn
pub field_over : (kind : Kind) (cases page : List ℕ) (len at turn n : ℕ) → n ≤ turn → field_from kind cases page len at (n - turn) ≡ (field_of cases len at, page)
unfolding field_from
field_over kind cases page len at turn n h =
    let none : n - turn ≡ zero = omega (arith, h) in
    rw none
