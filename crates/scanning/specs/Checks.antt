-- Checks at a place of a text.
-- Assumes nothing.
use Rattle.std.specs.Prelude.{ℕ, Ok, Err}
use Rattle.model.specs.Refusal.{Verdict, accepted, refused}

-- the same refusal at another place
abbrev pub moved : Verdict → ℕ → Verdict
moved (Ok _) place = accepted
moved (Err refusal) place = refused refusal.word place
