-- Laws of how many lines arrays by line have room for.
-- Assumes nothing.
use mathlib.Core.Path.{◌≡◌, sym, ◌∙◌, ap}
use Prim.Native.Nat.{ℕ, ◌≤◌, ◌<◌}
use native.Mathlib.Omega.{arith}
use lib.Dec.{ltb}
use borrow.Author.Tests.{lt-ltb, le-ltb, ltb-true, ltb-false}
use Rattle.counting.proofs.Joined.{by_test, pick_true, pick-false}
use Rattle.model.specs.Limits.{line_room}
use Rattle.pattern.specs.Room.{within}

-- few lines, many lines, and any number of them
pub within_small : (lines : ℕ) → lines < line_room → within lines ≡ lines
unfolding within
within_small lines b = pick_true lines line_room (lt-ltb lines line_room b)

pub within_large : (lines : ℕ) → line_room ≤ lines → within lines ≡ line_room
unfolding within
within_large lines b = pick-false lines line_room (le-ltb lines line_room b)

pub within_most : (lines : ℕ) → within lines ≤ line_room
within_most lines =
    by_test
    (ltb lines line_room)
    (λ e. let b = ltb-true lines line_room e in omega (arith, within_small lines b))
    (λ e. omega (arith, within_large lines (ltb-false lines line_room e)))

-- a line is among them if it is among the first lines
pub within_test : (lines l : ℕ) → l < line_room → ltb l (within lines) ≡ ltb l lines
within_test lines l b =
    by_test
    (ltb lines line_room)
    (λ e. ap (ltb l) (within_small lines (ltb-true lines line_room e)))
    (λ e. let c = ltb-false lines line_room e in
    ap (ltb l) (within_large lines c) ∙ lt-ltb l line_room b ∙ sym (lt-ltb l lines (omega arith)))

-- where there is room for every line, all of them are taken
pub within_all : (lines : ℕ) → lines ≤ line_room → within lines ≡ lines
within_all lines b =
    by_test
    (ltb lines line_room)
    (λ e. within_small lines (ltb-true lines line_room e))
    (λ e. let c = ltb-false lines line_room e in let all : line_room ≡ lines = omega arith in within_large lines c ∙ all)
