-- Patterns as cases give them.
-- Assumes nothing.
use Rattle.std.specs.Prelude.{◌≡◌, List, ℕ, replicate}
use Rattle.testing.specs.declared.patterns.Pattern.{Pattern}
use Rattle.testing.specs.Cases.{list_at, past_number}

-- the room of a list that is empty
abbrev pub empty_room : List ℕ
empty_room = replicate 16000 0

-- the place after the numbers of rows, columns and nonzeros
abbrev pub past_sizes : List ℕ → ℕ → ℕ
past_sizes cases at = past_number cases (past_number cases (past_number cases at))

-- the list at a place is the pattern's, and the next field stands at `next`
abbrev pub ListedAt : List ℕ → ℕ → Pattern → ℕ → Type 0
ListedAt cases at pattern next =
    let listed = list_at cases at empty_room in
    (pattern.room ≡ listed.1) × (pattern.len ≡ listed.0.value) × (next ≡ listed.0.next)
