-- What an answer tells: a refusal's line its number, "none yet" and a split that nothing is refused.
-- Assumes nothing.
use Rattle.std.specs.Prelude.{unwrap_or, Ok, Err}
use mathlib.Core.Bool.{Bool, true, false}
use mathlib.Core.List.{List, [], ◌∷◌, ◌++◌}
use mathlib.Core.Path.{◌≡◌, refl, sym, ◌∙◌, ap}
use Prim.Native.Nat.{ℕ, ◌+◌, ◌≤◌}
use native.Mathlib.Omega.{arith}
use lib.ListN.{length, length-append}
use Rattle.counting.specs.Tests.{◌and◌, pick}
use Rattle.counting.proofs.Joined.{no_way, pick_true}
use Rattle.model.specs.declared.Word.{Word}
use Rattle.model.specs.Refusal.{Verdict, accepted, refused, refusal_number, refuse, ◌then◌}
use Rattle.model.proofs.Theorems.Numbers.{number_range}
use Rattle.scanning.specs.Classes.{cased}
use Rattle.scanning.specs.Lines.{past}
use Rattle.scanning.specs.Words.{spells, same_word, number_at}
use Rattle.writing.specs.declared.Figures.{Figures}
use Rattle.writing.specs.Written.{decimals, number_text, figure_text, head_text, text_of}
use Rattle.writing.specs.Lines.{#refused, #at, refused_text, none_text}
use Rattle.writing.proofs.Held.{Holds, holds-left, holds_itself}
use Rattle.writing.proofs.Back.{number-first}
use Rattle.answering.specs.Refusing.{refusal_in, NoRefusal, split, none_yet, Tells}

-- a refusal's number is read off its line
module _ (word : Word) (place : ℕ) where
  abbrev number : ℕ
  number = refusal_number word

  abbrev rest : List ℕ
  rest = #at ++ number_text place 10

  held : Holds (refused_text word place) 8 (decimals 20 number ++ (32 ∷ []))
  unfolding refused_text figure_text number_text
  held = holds-left (decimals 20 number ++ (32 ∷ [])) rest (holds_itself #refused ((decimals 20 number ++ (32 ∷ [])) ++ rest))

  inside : 8 + length (decimals 20 number) ≤ length (refused_text word place)
  unfolding refused_text figure_text number_text
  inside =
      let digits = decimals 20 number ++ (32 ∷ []) in
      omega
      (arith, length-append (#refused ++ digits) rest, length-append #refused digits, length-append (decimals 20 number) (32 ∷ []))

  begins : same_word (refused_text word place) 0 8 false #refused ≡ true
  unfolding refused_text figure_text same_word spells past cased pick ◌and◌
  begins = refl

  pub number_in : refusal_in (refused_text word place) ≡ number
  unfolding refusal_in
  number_in =
      let line = refused_text word place in
      pick_true (unwrap_or (number_at line 8 (length line)).value 0) 0 begins
      ∙ ap (λ x. unwrap_or x.value 0) (number-first line 8 (length line) number held (omega (arith, (number_range word).1)) inside)

-- "none yet" and a split are no refusals
none_tells : (cap0 cap1 rest tries floor : ℕ) → refusal_in (none_text cap0 cap1 rest tries floor) ≡ 0
unfolding none_text refusal_in same_word spells past cased pick ◌and◌
none_tells _ _ _ _ _ = refl

split_tells : (m n nonzeros : ℕ) (list parts : List ℕ) (f : Figures) → refusal_in (text_of m n nonzeros list parts f) ≡ 0
unfolding text_of head_text refusal_in same_word spells past cased pick ◌and◌
split_tells m n nonzeros list parts f = refl

pub no_number : {answer : List ℕ} → NoRefusal answer → refusal_in answer ≡ 0
no_number (split m n nonzeros list parts f e) = ap refusal_in e ∙ split_tells m n nonzeros list parts f
no_number (none_yet cap0 cap1 rest tries floor e) = ap refusal_in e ∙ none_tells cap0 cap1 rest tries floor

-- an answer tells the first of two verdicts that refuses
pub tells_then :
    {answer : List ℕ} (v w : Verdict) → ((word : Word) (place : ℕ) → v ≡ refused word place → answer ≡ refused_text word place) →
    (v ≡ accepted → Tells w answer) → Tells (v then w) answer
tells_then (Ok _) w stops passes = passes refl
tells_then (Err refusal) w stops passes = stops refusal.word refusal.place refl

pub tells_check :
    {answer : List ℕ} (test : Bool) (word : Word) (place : ℕ) (w : Verdict) → (test ≡ true → answer ≡ refused_text word place) →
    (test ≡ false → Tells w answer) → Tells (refuse test word place then w) answer
tells_check true word place w stops passes = stops refl
tells_check false word place w stops passes = passes refl

pub tells_last :
    {answer : List ℕ} (test : Bool) (word : Word) (place : ℕ) → (test ≡ true → answer ≡ refused_text word place) →
    (test ≡ false → NoRefusal answer) → Tells (refuse test word place) answer
tells_last true word place stops passes = stops refl
tells_last false word place stops passes = passes refl

-- an answer that refuses something tells a verdict with that number
pub tells_number :
    (v : Verdict) (answer : List ℕ) (number : ℕ) → Tells v answer → refusal_in answer ≡ number → 1 ≤ number →
    (word : Word) × (place : ℕ) × (v ≡ refused word place) × (refusal_number word ≡ number)
tells_number (Ok _) answer number h e some = no_way (omega (arith, no_number h))
tells_number (Err refusal) answer number h e some =
    (refusal.word, refusal.place, refl, sym (number_in refusal.word refusal.place) ∙ ap refusal_in (sym h) ∙ e)
