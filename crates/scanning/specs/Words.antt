-- Document 01, 'Texts': words, numbers, and lines of numbers; request 1 of document 02: lines with a real value.
-- Assumes nothing.
use Rattle.std.specs.Prelude.{Bool, true, false, Option, Some, None, is_some, unwrap_or, Result, Ok, Err, List, ℕ, zero, suc, ◌+◌, ◌-◌, ◌*◌, eqb, ltb, leb, length, get_or}
use Rattle.counting.specs.Tests.{◌and◌, pick}
use Rattle.scanning.specs.declared.Stretch.TheVariants.{Blanks, Nonblanks, Digits}
use Rattle.scanning.specs.declared.Field.{Field}
use Rattle.scanning.specs.declared.Field.TheVariants.{Pattern, Integer, Real}
use Rattle.scanning.specs.declared.Span.{Span}
use Rattle.scanning.specs.declared.Number.{Number}
use Rattle.scanning.specs.declared.Numbers.{Numbers}
use Rattle.scanning.specs.Classes.{cased, digit_of}
use Rattle.scanning.specs.Lines.{past, stretch_end}
use Rattle.scanning.specs.Reals.{is_real}

-- the next word from `at` on, in a line that ends at `end`: blanks stand between words
unfoldable pub word_at : List ℕ → ℕ → ℕ → Span
word_at text at end =
    let from = stretch_end Blanks text at end in
    record { from = from; stop = stretch_end Nonblanks text from end }

-- the bytes from `from` on spell so many bytes of a word
unfoldable pub spells : List ℕ → ℕ → Bool → List ℕ → ℕ → Bool
spells text from any word i = eqb (cased any (get_or text (from + i) 0)) (get_or word i 0)

-- the bytes between two places are a word, in any letter case or in this case
unfoldable pub same_word : List ℕ → ℕ → ℕ → Bool → List ℕ → Bool
same_word text from stop any word =
    eqb (stop - from) (length word) and eqb (past (spells text from any word) 0 (length word)) (length word)

-- number: 1 to 9 decimal digits, no sign
unfoldable pub is_number : List ℕ → ℕ → ℕ → Bool
is_number text from stop =
    ltb from stop and (leb (stop - from) 9 and eqb (stretch_end Digits text from stop) stop)

-- the value of so many digits
unfoldable pub value_of : List ℕ → ℕ → ℕ → ℕ
value_of text from zero = 0
value_of text from (suc k) = value_of text from k * 10 + digit_of (get_or text (from + k) 0)

-- the value of the number between two places, and 0 where there is none
unfoldable pub number_value : List ℕ → ℕ → ℕ → ℕ
number_value text from stop = pick (is_number text from stop) (value_of text from (stop - from)) 0

-- the number between two places, where there is one
unfoldable pub number_between : List ℕ → ℕ → ℕ → Option ℕ
number_between text from stop = pick (is_number text from stop) (Some (value_of text from (stop - from))) None

-- the next word as a number, where it is one
unfoldable pub number_at : List ℕ → ℕ → ℕ → Number
number_at text at end =
    let word = word_at text at end in
    record { value = number_between text word.from word.stop; stop = word.stop }

-- no word is left: blanks may also end a line
unfoldable pub ends_at : List ℕ → ℕ → ℕ → Bool
ends_at text at end = eqb (stretch_end Blanks text at end) end

-- what stands after i and j: nothing for pattern, p for integer, a real value for real, which is skipped; without p it counts as 1
abbrev pub third_at : Field → List ℕ → ℕ → ℕ → Number
third_at Pattern text at end = record { value = Some 1; stop = at }
third_at Integer text at end = number_at text at end
third_at Real text at end =
    let word = word_at text at end in
    record { value = pick (is_real text word.from word.stop) (Some 1) None; stop = word.stop }

-- F is integer: its entries have parts
abbrev pub is_integer : Field → Bool
is_integer Pattern = false
is_integer Integer = true
is_integer Real = false

-- "i j", "i j p" or "i j v", and no further word: Ok with these numbers, and Err with what the words give where the line has not that form;
-- a word that is no number gives 0, and 1 as the third of real
unfoldable pub numbers_at : List ℕ → ℕ → ℕ → Field → Result Numbers Numbers
numbers_at text at end field =
    let a = number_at text at end in
    let b = number_at text a.stop end in
    let c = third_at field text b.stop end in
    let numbers : Numbers = record { first = unwrap_or a.value 0; second = unwrap_or b.value 0; third = unwrap_or c.value (pick (is_integer field) 0 1) } in
    pick ((is_some a.value and is_some b.value) and (is_some c.value and ends_at text c.stop end)) (Ok numbers) (Err numbers)

-- the numbers of a line, whether it has its form or not
abbrev pub numbers_in : Result Numbers Numbers → Numbers
numbers_in (Ok numbers) = numbers
numbers_in (Err numbers) = numbers
