-- Arrays by line: how many lines they have room for.
-- Assumes nothing.
use Rattle.std.specs.Prelude.{ℕ, ltb}
use Rattle.counting.specs.Tests.{pick}
use Rattle.model.specs.Limits.{line_room}

-- so many lines, or as many as there is room for
unfoldable pub within : ℕ → ℕ
within lines = pick (ltb lines line_room) lines line_room
