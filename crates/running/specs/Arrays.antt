-- Arrays as they are made.
-- Assumes nothing.
use Rattle.std.specs.Prelude.{List, ◌≡◌, ℕ, ◌<◌, length, get_or}
use Rattle.model.specs.Limits.{line_room}

-- so many zeros
pub record Zeros (n : ℕ) (xs : List ℕ) : Type 0 where
  pub long : length xs ≡ n
  pub zero_at : (i : ℕ) → get_or xs i 0 ≡ 0

-- no line leans or is torn
pub record Neutral (kinds : List ℕ) : Type 0 where
  pub long : length kinds ≡ line_room
  pub neutral : (l : ℕ) → l < line_room → get_or kinds l 0 ≡ 2
