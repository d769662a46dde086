-- Laws of the first line: its numbers end soon, and what a command tells of its line.
-- Assumes nothing.
use mathlib.Core.Bool.{Bool, true, false}
use mathlib.Core.List.{List}
use mathlib.Core.Path.{◌≡◌, refl, sym, ◌∙◌, ap}
use Rattle.std.specs.Prelude.{Option, Some, None}
use Prim.Native.Nat.{ℕ, zero, suc, ◌+◌, ◌-◌, ◌≤◌, ◌<◌}
use native.Mathlib.Omega.{arith}
use lib.Dec.{eqb, ltb}
use lib.ListN.{length, get_or, get_or-eq_default}
use borrow.Author.Tests.{eqb-true, ltb-true, ltb-false}
use Rattle.counting.specs.Tests.{◌and◌}
use Rattle.counting.proofs.Joined.{no_way, never, by_test, and_right, pick_true, pick-false}
use Rattle.scanning.specs.declared.Stretch.{Stretch}
use Rattle.scanning.specs.declared.Stretch.TheVariants.{Digits}
use Rattle.scanning.specs.Lines.{past, stretches_at, stretch_end}
use Rattle.scanning.specs.Words.{same_word, is_number, value_of, number_between}
use Rattle.scanning.proofs.Scans.{number_long}
use Rattle.answering.specs.declared.Command.{Command}
use Rattle.answering.specs.FirstLine.{#percent, #budget, command_by, command_of}

-- a stretch ends where it must at the latest
past-within : (test : ℕ → Bool) (at k : ℕ) → past test at k ≤ at + k
unfolding past
past-within test at zero = omega arith
past-within test at (suc k) =
    by_test
    (test at)
    (λ t. omega (arith, ap (λ (x : ℕ). x) (pick_true (past test (at + 1) k) at t), past-within test (at + 1) k))
    (λ t. omega (arith, pick-false (past test (at + 1) k) at t))

pub stretch_within : (stretch : Stretch) (text : List ℕ) (at stop : ℕ) → at ≤ stop → stretch_end stretch text at stop ≤ stop
unfolding stretch_end
stretch_within stretch text at stop h = omega (arith, past-within (stretches_at stretch text) at (stop - at))

-- a byte other than 0 stands inside
byte_inside : (l : List ℕ) (i b : ℕ) → b ≡ get_or l i 0 → b ≡ 10 → i < length l
byte_inside l i b e h =
    by_test
    (ltb i (length l))
    (λ t. ltb-true i (length l) t)
    (λ t. no_way (omega (arith, get_or-eq_default l 0 {n = i} (ltb-false i (length l) t))))

-- where E and B end
abbrev percent_end : List ℕ → ℕ
percent_end input = stretch_end Digits input 8 18

abbrev budget_end : List ℕ → ℕ
budget_end input = stretch_end Digits input (percent_end input + 8) (percent_end input + 8 + 10)

pub percent_ends : (input : List ℕ) → stretch_end Digits input 8 18 ≤ 18
percent_ends input = stretch_within Digits input 8 18 (omega arith)

pub budget_ends : (input : List ℕ) (from : ℕ) → stretch_end Digits input from (from + 10) ≤ from + 10
budget_ends input from = stretch_within Digits input from (from + 10) (omega arith)

-- what a command tells of its line: both numbers are there, and LF after them
pub record RightLine (input : List ℕ) (command : Command) : Type 0 where
  pub first : is_number input 8 (percent_end input) ≡ true
  pub second : is_number input (percent_end input + 8) (budget_end input) ≡ true
  pub last : get_or input (budget_end input) 0 ≡ 10
  pub next_is : command.next ≡ budget_end input + 1

number_there : (text : List ℕ) (from stop : ℕ) {value : ℕ} → number_between text from stop ≡ Some value → is_number text from stop ≡ true
unfolding number_between
number_there text from stop h =
    by_test
    (is_number text from stop)
    (λ there. there)
    (λ none. let q = sym (pick-false (Some (value_of text from (stop - from))) None none) ∙ h in
    never (cc))

-- the numbers of a command, and where its text starts
commanded :
    (percent budget : Option ℕ) (next : ℕ) (command : Command) → command_by percent budget next ≡ Some command →
    (e : ℕ) × (b : ℕ) × (percent ≡ Some e) × (budget ≡ Some b) × (command.next ≡ next)
unfolding command_by
commanded None budget next command h = never (cc)
commanded (Some e) None next command h = never (cc)
commanded (Some e) (Some b) next command h =
    let same : ◌≡◌ {A = Command} (record { percent = e; budget = b; next = next }) command = cc in
    (e, b, refl, refl, ap (λ (c : Command). c.next) (sym same))

pub right_line : (input : List ℕ) (command : Command) → command_of input ≡ Some command → RightLine input command
unfolding command_of
right_line input command h =
    let stop = percent_end input in
    let end = budget_end input in
    let words = same_word input 0 8 false #percent and same_word input stop (stop + 8) false #budget in
    let made = command_by (number_between input 8 stop) (number_between input (stop + 8) end) (end + 1) in
    by_test
    (words and eqb (get_or input end 0) 10)
    (λ right. let parts = commanded _ _ _ command (sym (pick_true made None right) ∙ h) in
    record {
      first = number_there input 8 stop parts.2;
      second = number_there input (stop + 8) end parts.3;
      last = eqb-true (get_or input end 0) 10 (and_right words (eqb (get_or input end 0) 10) right);
      next_is = parts.4;
    })
    (λ wrong. let q = sym (pick-false made None wrong) ∙ h in
    never (cc))

-- a first line that is right has at most 35 bytes: two words of 8, two numbers of up to 9, and LF; so its limit of 64 bytes never decides
pub command-short : (input : List ℕ) (command : Command) → command_of input ≡ Some command → command.next ≤ 35
command-short input command h =
    let line = right_line input command h in
    omega (arith, line.next_is, number_long input 8 (percent_end input) line.first, number_long input (percent_end input + 8) (budget_end input) line.second)

-- its LF stands in the input
pub command_room : (input : List ℕ) (command : Command) → command_of input ≡ Some command → command.next ≤ length input
command_room input command h =
    let line = right_line input command h in
    omega (arith, line.next_is, byte_inside input (budget_end input) (get_or input (budget_end input) 0) refl line.last)
