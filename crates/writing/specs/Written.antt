-- Document 01, 'Texts', with the rest of document 02's request 4: the text that the writer gives.
-- Assumes nothing.
use Rattle.std.specs.Prelude.{List, [], ◌∷◌, ◌++◌, ◌≡◌, ℕ, zero, suc, ◌+◌, ◌/◌, ◌%◌, eqb, ltb, length, get_or}
use Rattle.std.proofs.lemmas.List.Edits.{sets}
use Rattle.counting.specs.Tests.{pick}
use Rattle.model.specs.Pattern.{row_in, column_in}
use Rattle.writing.specs.declared.Figures.{Figures}

-- a text put from a place on, and the place after it; bytes past a slice's end are left out
pub record Puts (page : List ℕ) (at : ℕ) (text new : List ℕ) (next : ℕ) : Type 0 where
  pub after : next ≡ at + length text
  pub bytes : new ≡ sets page at text

-- the last k decimal digits of a number, without leading zeros
unfoldable pub decimals : ℕ → ℕ → List ℕ
decimals zero n = []
decimals (suc k) n = pick (ltb n 10) [] (decimals k (n / 10)) ++ ((48 + n % 10) ∷ [])

-- a number of up to 20 digits, and the byte after it
unfoldable pub number_text : ℕ → ℕ → List ℕ
number_text n b = decimals 20 n ++ (b ∷ [])

-- a label, a number and a space
unfoldable pub figure_text : List ℕ → ℕ → List ℕ
figure_text label n = label ++ number_text n 32

-- "% volume ", "caps ", "rest ", "tries ", "floor "
abbrev pub #volume : List ℕ
#volume = 37 ∷ 32 ∷ 118 ∷ 111 ∷ 108 ∷ 117 ∷ 109 ∷ 101 ∷ 32 ∷ []

abbrev pub #caps : List ℕ
#caps = 99 ∷ 97 ∷ 112 ∷ 115 ∷ 32 ∷ []

abbrev pub #rest : List ℕ
#rest = 114 ∷ 101 ∷ 115 ∷ 116 ∷ 32 ∷ []

abbrev pub #tries : List ℕ
#tries = 116 ∷ 114 ∷ 105 ∷ 101 ∷ 115 ∷ 32 ∷ []

abbrev pub #floor : List ℕ
#floor = 102 ∷ 108 ∷ 111 ∷ 111 ∷ 114 ∷ 32 ∷ []

-- caps C0 C1, and a space
unfoldable pub caps_text : ℕ → ℕ → List ℕ
caps_text cap0 cap1 = figure_text #caps cap0 ++ number_text cap1 32

-- caps C0 C1 rest R tries T floor F, and the byte after it
unfoldable pub figures_text : ℕ → ℕ → ℕ → ℕ → ℕ → ℕ → List ℕ
figures_text cap0 cap1 rest tries floor b =
    caps_text cap0 cap1
    ++ (figure_text #rest rest ++ (figure_text #tries tries ++ (#floor ++ number_text floor b)))

-- "stopped" LF and "complete" LF
abbrev pub #stopped : List ℕ
#stopped = 115 ∷ 116 ∷ 111 ∷ 112 ∷ 112 ∷ 101 ∷ 100 ∷ 10 ∷ []

abbrev pub #complete : List ℕ
#complete = 99 ∷ 111 ∷ 109 ∷ 112 ∷ 108 ∷ 101 ∷ 116 ∷ 101 ∷ 10 ∷ []

-- "stopped" for 0, "complete" otherwise
unfoldable pub ending_text : ℕ → List ℕ
ending_text complete = pick (eqb complete 0) #stopped #complete

-- the comment: % volume V caps C0 C1 rest R tries T floor F complete
unfoldable pub comment_text : Figures → List ℕ
comment_text f =
    figure_text #volume f.volume
    ++ (figures_text f.cap0 f.cap1 f.rest f.tries f.floor 32 ++ ending_text f.complete)

-- three numbers, single spaces, LF
unfoldable pub sizes_text : ℕ → ℕ → ℕ → List ℕ
sizes_text m n nonzeros = number_text m 32 ++ (number_text n 32 ++ number_text nonzeros 10)

-- an entry "i j p", counted from 1
unfoldable pub entry_text : List ℕ → List ℕ → ℕ → List ℕ
entry_text list parts t = sizes_text (row_in list t + 1) (column_in list t + 1) (get_or parts t 0 + 1)

-- the entries in number order
unfoldable pub entries_text : List ℕ → List ℕ → ℕ → List ℕ
entries_text list parts zero = []
entries_text list parts (suc t) = entries_text list parts t ++ entry_text list parts t

-- %%MatrixMarket matrix coordinate integer general LF
abbrev pub #first-line : List ℕ
#first-line =
    37 ∷ 37 ∷ 77 ∷ 97 ∷ 116 ∷ 114 ∷ 105 ∷ 120 ∷ 77 ∷ 97 ∷ 114 ∷ 107 ∷ 101 ∷ 116 ∷ 32 ∷ 109 ∷ 97 ∷ 116 ∷ 114 ∷ 105 ∷ 120 ∷ 32 ∷ 99 ∷ 111 ∷ 111 ∷ 114 ∷ 100 ∷ 105 ∷ 110 ∷ 97 ∷ 116 ∷ 101 ∷ 32 ∷ 105 ∷ 110 ∷ 116 ∷ 101 ∷ 103 ∷ 101 ∷ 114 ∷ 32 ∷ 103 ∷ 101 ∷ 110 ∷ 101 ∷ 114 ∷ 97 ∷ 108 ∷ 10 ∷ []

-- first line and comment
unfoldable pub head_text : Figures → List ℕ
head_text f = #first-line ++ comment_text f

-- size line and entries
unfoldable pub body_text : ℕ → ℕ → ℕ → List ℕ → List ℕ → List ℕ
body_text m n nonzeros list parts = sizes_text m n nonzeros ++ entries_text list parts nonzeros

-- the text of a split
unfoldable pub text_of : ℕ → ℕ → ℕ → List ℕ → List ℕ → Figures → List ℕ
text_of m n nonzeros list parts f = head_text f ++ body_text m n nonzeros list parts
