-- The limits of document 01, section 'What the splitter covers', with those of document 02's requests 6 and 7.
-- Assumes nothing.
use Rattle.std.specs.Prelude.{ℕ, ◌^◌}

-- rows m and columns n: 1 to this
abbrev pub line_limit : ℕ
line_limit = 300

-- room of an array by line, more than lines m + n of an accepted list
abbrev pub line_room : ℕ
line_room = 1024

-- nonzeros N: 0 to this, and at most m × n
abbrev pub nonzero_limit : ℕ
nonzero_limit = 4000

-- cap: 0 to this
abbrev pub cap_limit : ℕ
cap_limit = 4000

-- percentage e: 0 to this
abbrev pub percent_limit : ℕ
percent_limit = 100

-- budget of a call: 0 to this
abbrev pub budget_limit : ℕ
budget_limit = 1_000_000

-- tries of a search: at most this, by document 02's request 6
abbrev pub tries_limit : ℕ
tries_limit = 10 ^ 13
