-- The marks of a packed trail: the latest 1 to 32 are base-4 digits of `top`, the last mark the lowest, and the marks before them lie in full words of 32.
-- Assumes nothing.
use Rattle.std.specs.Prelude.{Bool, true, false, List, [], ◌∷◌, ◌++◌, ◌≡◌, ℕ, zero, suc, ◌+◌, ◌-◌, ◌*◌, ◌/◌, ◌%◌, ◌≤◌, ltb, length, get_or}
use Rattle.counting.specs.Tests.{◌and◌, bit}
use Rattle.trail.specs.Trail.{mark_room, is_part}
use Rattle.model.specs.Marking.{unmarked}
use Rattle.model.specs.State.{are_marks}
use Rattle.packing.specs.declared.PackedTrail.{PackedTrail}

-- the marks of a full word
abbrev pub word_marks : ℕ
word_marks = 32

-- room for the full words below the top of a longest trail
abbrev pub word_room : ℕ
word_room = 18

-- 4 to the power of 31: a top with fewer marks than a word needs no digits above it
abbrev pub top_room : ℕ
top_room = 4611686018427387904

-- the lowest n base-4 digits of a number, the lowest first
unfoldable pub digits : ℕ → ℕ → List ℕ
digits zero v = []
digits (suc n) v = v % 4 ∷ digits n (v / 4)

-- the marks of the first w words, the last mark first
unfoldable pub words_in : List ℕ → ℕ → List ℕ
words_in words zero = []
words_in words (suc w) = digits word_marks (get_or words w 0) ++ words_in words w

-- the full words below the top, of so many marks
abbrev pub full_words : ℕ → ℕ
full_words len = (len - 1) / word_marks

-- the marks in the top, of so many: 1 to 32, or none of none
abbrev pub top_marks : ℕ → ℕ
top_marks len = len - word_marks * full_words len

-- so many marks of these words and this top, the last first
unfoldable pub marks_of : List ℕ → ℕ → ℕ → List ℕ
marks_of words top len = digits (top_marks len) top ++ words_in words (full_words len)

-- the marks of a packed trail, the last first
unfoldable pub packed_in : PackedTrail → List ℕ
packed_in t = marks_of t.words t.top t.len

-- how many marks are 0 or 1
unfoldable pub parts_in : List ℕ → ℕ
parts_in [] = 0
parts_in (x ∷ τ) = bit (is_part x) + parts_in τ

-- all marks but the last
unfoldable pub earlier : List ℕ → List ℕ
earlier [] = []
earlier (x ∷ τ) = τ

-- the last mark, or no mark
unfoldable pub last_of : List ℕ → ℕ
last_of [] = unmarked
last_of (x ∷ τ) = x

-- the last mark is cut, as its top and length say
abbrev pub ends_cut : PackedTrail → Bool
ends_cut t = ltb 0 t.len and ltb 1 (t.top % 4)

-- the mark that a last mark becomes where it is not cut: 0 becomes 1 or cut, and 1 becomes cut
unfoldable pub next_mark : ℕ → Bool → ℕ
next_mark zero true = 1
next_mark zero false = 2
next_mark (suc x) allowed = 2

-- a packed trail holds these marks
pub record Packs (t : PackedTrail) (τ : List ℕ) : Type 0 where
  pub holds : packed_in t ≡ τ
  pub long : t.len ≡ length τ
  pub fits : length τ ≤ mark_room
  pub marks : are_marks τ ≡ true
  pub ends : t.top % 4 ≡ last_of τ
  pub counted : t.parts ≡ parts_in (earlier τ)
  pub wide : length t.words ≡ word_room
