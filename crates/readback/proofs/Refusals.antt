-- A reading that is refused changes nothing.
-- Assumes nothing.
use Rattle.std.specs.Prelude.{Ok, Err}
use mathlib.Core.List.{List}
use mathlib.Core.Path.{◌≡◌, refl}
use Prim.Native.Nat.{ℕ}
use Rattle.counting.proofs.Joined.{never}
use Rattle.model.specs.Refusal.{Verdict, refused}
use Rattle.model.specs.declared.Word.{Word}
use Rattle.texts.specs.declared.Header.{Header}
use Rattle.texts.specs.Header.{header_of}
use Rattle.texts.specs.Reading.{answer_read, output_after, list_given, parts_given, read_verdict, read_call, read_list, read_parts}

-- an answer that is a refusal comes of a verdict that is one
kept_by :
    (v : Verdict) (h : Header) (nonzeros : ℕ) (new old : List ℕ) (word : Word) (place : ℕ) → answer_read v h nonzeros ≡ refused word place →
    output_after v new old ≡ old
unfolding answer_read output_after
kept_by (Ok _) h nonzeros new old word place e = never (cc)
kept_by (Err refusal) h nonzeros new old word place e = refl

pub read_refused :
    (text list parts : List ℕ) (word : Word) (place : ℕ) → read_call text list parts ≡ refused word place →
    (read_list text list parts ≡ list) × (read_parts text list parts ≡ parts)
unfolding read_call read_list read_parts list_given parts_given
read_refused text list parts word place e = (
  kept_by (read_verdict text list parts) (header_of text) _ _ list word place e,
  kept_by (read_verdict text list parts) (header_of text) _ _ parts word place e,
)
