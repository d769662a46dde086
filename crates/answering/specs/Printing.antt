-- The program's input and output: how many bytes each holds, and what is printed.
-- Assumes nothing.
use Rattle.std.specs.Prelude.{List, ◌≡◌, ℕ, ◌+◌, ◌≤◌, length, take, replicate}
use Rattle.texts.specs.Header.{text_limit}
use Rattle.writing.specs.Written.{Puts}
use Rattle.answering.specs.declared.Printed.{Printed}
use Rattle.answering.specs.Answer.{answer_text}

-- the first line: at most 64 bytes
abbrev pub first_line_limit : ℕ
first_line_limit = 64

-- bytes that are read: a first line, a text at its limit, and one more, which tells a longer text
abbrev pub input_room : ℕ
input_room = first_line_limit + text_limit + 1

-- bytes that have room for every answer
abbrev pub output_room : ℕ
output_room = 65_536

-- an input before it is read
unfoldable pub no_input : List ℕ
no_input = replicate input_room 0

-- an output before it is written
unfoldable pub no_output : List ℕ
no_output = replicate output_room 0

-- what is printed after so many bytes were read: the answer to the whole input that starts with them
pub record Prints (input : List ℕ) (count : ℕ) (r : Printed) : Type 0 where
  pub input_size : length input ≡ input_room
  pub output_size : length r.bytes ≡ output_room
  pub fits : r.len ≤ output_room
  pub puts : Puts no_output 0 (answer_text (take count input) no_output) r.bytes r.len
  pub answers : (whole : List ℕ) → take count input ≡ take input_room whole → take r.len r.bytes ≡ answer_text whole no_output
