-- Laws of bytes: their letter case and their digits.
-- Assumes nothing.
use Rattle.std.proofs.Common.{◌≡◌, ℕ, ◌+◌, ◌-◌, ◌≤◌, ◌<◌, true, false, refl, sym, ◌∙◌, leb, ltb}
use Rattle.std.specs.Char.{to_ascii_lowercase}
use Rattle.std.proofs.lemmas.Str.Ascii.{lowercase_is}
use borrow.Author.Tests.{le-leb, lt-leb, ltb-true, ltb-false}
use Rattle.counting.specs.Tests.{pick}
use Rattle.counting.proofs.Joined.{by_test, and_intro, and_fails_left, and_fails_right, pick_true, pick-false}
use Rattle.scanning.specs.Classes.{between, digit_of, small_letter, cased}

-- a number between two others passes the test, any other fails it
pub between_in : (low high b : ℕ) → low ≤ b → b ≤ high → between low high b ≡ true
unfolding between
between_in low high b l h = and_intro (le-leb low b l) (le-leb b high h)

pub between_below : (low high b : ℕ) → b < low → between low high b ≡ false
unfolding between
between_below low high b l = and_fails_left (leb b high) (lt-leb low b l)

pub between_above : (low high b : ℕ) → high < b → between low high b ≡ false
unfolding between
between_above low high b h = and_fails_right (leb low b) (lt-leb b high h)

-- a byte in this case is as it is
pub cased_same : (b : ℕ) → cased false b ≡ b
unfolding cased
cased_same b = pick-false (small_letter b) b refl

-- a byte in any case is its small letter
pub cased_small : (b : ℕ) → cased true b ≡ to_ascii_lowercase b
unfolding cased small_letter
cased_small b =
    let laws = lowercase_is b in
    pick_true (pick (between 65 90 b) (b + 32) b) b refl
    ∙ by_test
    (ltb b 65)
    (λ l. let below = ltb-true b 65 l in
    pick-false (b + 32) b (between_below 65 90 b below) ∙ sym (laws.1 below))
    (λ l. let low = ltb-false b 65 l in
    by_test
    (ltb 90 b)
    (λ h. let above = ltb-true 90 b h in
    pick-false (b + 32) b (between_above 65 90 b above) ∙ sym (laws.2 above))
    (λ h. let high = ltb-false 90 b h in
    pick_true (b + 32) b (between_in 65 90 b low high) ∙ sym (laws.0 (low, high))))

-- the value of a digit
pub digit_in : (b : ℕ) → 48 ≤ b → b ≤ 57 → digit_of b ≡ b - 48
unfolding digit_of
digit_in b l h = pick_true (b - 48) 0 (between_in 48 57 b l h)

-- other bytes have the value 0
pub digit_below : (b : ℕ) → b < 48 → digit_of b ≡ 0
unfolding digit_of
digit_below b l = pick-false (b - 48) 0 (between_below 48 57 b l)

pub digit_above : (b : ℕ) → 57 < b → digit_of b ≡ 0
unfolding digit_of
digit_above b h = pick-false (b - 48) 0 (between_above 48 57 b h)
