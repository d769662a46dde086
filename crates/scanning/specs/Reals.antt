-- Request 1 of document 02: real values.
-- Assumes nothing.
use Rattle.std.specs.Prelude.{Bool, List, ℕ, ◌+◌, eqb, ltb, get_or}
use Rattle.counting.specs.Tests.{◌and◌, ◌or◌, pick}
use Rattle.scanning.specs.declared.Stretch.TheVariants.{Digits}
use Rattle.scanning.specs.Lines.{stretch_end}

-- past the byte at a place before `stop`, where it is one of two
unfoldable pub past_either : List ℕ → ℕ → ℕ → ℕ → ℕ → ℕ
past_either text at stop one other =
    let b = get_or text at 0 in
    pick (ltb at stop and (eqb b one or eqb b other)) (at + 1) at

-- an optional sign: + or -
abbrev pub past_sign : List ℕ → ℕ → ℕ → ℕ
past_sign text at stop = past_either text at stop 43 45

-- an exponent: e or E, an optional sign, and digits, at least one
unfoldable pub is_exponent : List ℕ → ℕ → ℕ → Bool
is_exponent text at stop =
    let letter = past_either text at stop 101 69 in
    let from = past_sign text letter stop in
    let end = stretch_end Digits text from stop in
    ltb at letter and ltb from end and eqb end stop

-- a real value: an optional sign, digits with an optional point, at least one digit, and an optional exponent
unfoldable pub is_real : List ℕ → ℕ → ℕ → Bool
is_real text from stop =
    let start = past_sign text from stop in
    let point = stretch_end Digits text start stop in
    let after = past_either text point stop 46 46 in
    let end = stretch_end Digits text after stop in
    (ltb start point or ltb after end) and (eqb end stop or is_exponent text end stop)
