-- Document 01, 'Texts', and request 1 of document 02: the first line, the size line, and the checks before the entries.
-- Assumes nothing.
use Rattle.std.specs.Prelude.{Bool, true, false, not, Option, Some, None, is_some, is_ok, unwrap_or, List, [], ◌∷◌, ℕ, ◌*◌, eqb, ltb, length}
use Rattle.counting.specs.Tests.{◌and◌, ◌or◌, pick}
use Rattle.model.specs.declared.Word.TheVariants.{Banner, SizeLine, TooBig, ShortBuffer, NotSquare}
use Rattle.model.specs.Refusal.{Verdict, refuse, ◌then◌}
use Rattle.model.specs.Pattern.{entry_bytes}
use Rattle.model.specs.Calls.{sizes_verdict}
use Rattle.scanning.specs.declared.Stretch.TheVariants.{Nonblanks}
use Rattle.scanning.specs.declared.Field.{Field}
use Rattle.scanning.specs.declared.Field.TheVariants.{Pattern, Integer, Real}
use Rattle.texts.specs.declared.Banner as banner
use Rattle.texts.specs.declared.Header.{Header}
use Rattle.scanning.specs.Checks.{moved}
use Rattle.scanning.specs.Lines.{stretch_end, line_end, line_next, size_line_at}
use Rattle.scanning.specs.Words.{word_at, same_word, ends_at, numbers_at, numbers_in, is_integer}

-- text: at most this many bytes
abbrev pub text_limit : ℕ
text_limit = 65_536

-- %%MatrixMarket
abbrev pub #banner : List ℕ
#banner = 37 ∷ 37 ∷ 77 ∷ 97 ∷ 116 ∷ 114 ∷ 105 ∷ 120 ∷ 77 ∷ 97 ∷ 114 ∷ 107 ∷ 101 ∷ 116 ∷ []

-- matrix
abbrev pub #matrix : List ℕ
#matrix = 109 ∷ 97 ∷ 116 ∷ 114 ∷ 105 ∷ 120 ∷ []

-- coordinate
abbrev pub #coordinate : List ℕ
#coordinate = 99 ∷ 111 ∷ 111 ∷ 114 ∷ 100 ∷ 105 ∷ 110 ∷ 97 ∷ 116 ∷ 101 ∷ []

-- pattern
abbrev pub #pattern : List ℕ
#pattern = 112 ∷ 97 ∷ 116 ∷ 116 ∷ 101 ∷ 114 ∷ 110 ∷ []

-- integer
abbrev pub #integer : List ℕ
#integer = 105 ∷ 110 ∷ 116 ∷ 101 ∷ 103 ∷ 101 ∷ 114 ∷ []

-- real
abbrev pub #real : List ℕ
#real = 114 ∷ 101 ∷ 97 ∷ 108 ∷ []

-- general
abbrev pub #general : List ℕ
#general = 103 ∷ 101 ∷ 110 ∷ 101 ∷ 114 ∷ 97 ∷ 108 ∷ []

-- symmetric
abbrev pub #symmetric : List ℕ
#symmetric = 115 ∷ 121 ∷ 109 ∷ 109 ∷ 101 ∷ 116 ∷ 114 ∷ 105 ∷ 99 ∷ []

-- F: pattern, integer or real, if it is one of them
unfoldable pub field_at : List ℕ → ℕ → ℕ → Option Field
field_at text from stop =
    pick
    (same_word text from stop true #integer)
    (Some Integer)
    (pick
    (same_word text from stop true #real)
    (Some Real)
    (pick (same_word text from stop true #pattern) (Some Pattern) None))

-- first line, from offset 0: %%MatrixMarket (this case), then matrix coordinate F and general or symmetric, any letter case
unfoldable pub banner_at : List ℕ → ℕ → banner.Banner
banner_at text end =
    let stop = stretch_end Nonblanks text 0 end in
    let a = word_at text stop end in
    let b = word_at text a.stop end in
    let f = word_at text b.stop end in
    let s = word_at text f.stop end in
    let field = field_at text f.from f.stop in
    let symmetric = same_word text s.from s.stop true #symmetric in
    record {
      fine =
          (same_word text 0 stop false #banner and same_word text a.from a.stop true #matrix)
          and ((same_word text b.from b.stop true #coordinate and is_some field)
          and ((same_word text s.from s.stop true #general or symmetric) and ends_at text s.stop end));
      field = unwrap_or field Pattern;
      symmetric = symmetric;
    }

-- the first line, and the size line of three numbers past empty lines and comments: "m n N", or for symmetric m, n and the number of entries
unfoldable pub header_of : List ℕ → Header
header_of text =
    let first = banner_at text (line_end text 0) in
    let at = size_line_at text (length text) (line_next text 0) in
    let sizes = numbers_at text at (line_end text at) Integer in
    let numbers = numbers_in sizes in
    record {
      fine = first.fine;
      field = first.field;
      symmetric = first.symmetric;
      sized = is_ok sizes;
      m = numbers.first;
      n = numbers.second;
      entries = numbers.third;
      at = at;
      next = line_next text at;
    }

-- 9: for so many nonzeros, the list's slice too short, or for integer that of the parts
unfoldable pub short : Header → ℕ → ℕ → ℕ → Bool
short h nonzeros list parts =
    ltb list (entry_bytes * nonzeros) or (is_integer h.field and ltb parts nonzeros)

-- 4 for m, n and so many nonzeros, at the size line
unfoldable pub size_line_verdict : Header → ℕ → Verdict
size_line_verdict h nonzeros = moved (sizes_verdict h.m h.n nonzeros) h.at

-- the same, then 9, of slices of these lengths
unfoldable pub room_verdict : Header → ℕ → ℕ → ℕ → Verdict
room_verdict h nonzeros list parts = size_line_verdict h nonzeros then refuse (short h nonzeros list parts) ShortBuffer 0

-- symmetric: 4 for m and n alone, which are fine without a nonzero, then 15
unfoldable pub square_verdict : Header → Verdict
square_verdict h = size_line_verdict h 0 then refuse (not (eqb h.m h.n)) NotSquare h.at

-- 4 for the text, 1, 2, then 4 and 9, or for symmetric 4 and 15, of a text and slices of these lengths
unfoldable pub head_verdict : Header → ℕ → ℕ → ℕ → Verdict
head_verdict h text list parts =
    refuse (ltb text_limit text) TooBig 0
    then refuse (not h.fine) Banner 0
    then refuse (not h.sized) SizeLine h.at
    then pick h.symmetric (square_verdict h) (room_verdict h h.entries list parts)
