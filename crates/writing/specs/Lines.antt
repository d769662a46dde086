-- Document 01, 'Texts', with the rest of document 02's request 4: what the program prints where it has no split to write.
-- Assumes nothing.
use Rattle.std.specs.Prelude.{List, [], ◌∷◌, ◌++◌, ℕ}
use Rattle.model.specs.declared.Word.{Word}
use Rattle.model.specs.Refusal.{refusal_number}
use Rattle.writing.specs.Written.{number_text, figure_text, figures_text}

-- "refused ", "at ", "none yet "
abbrev pub #refused : List ℕ
#refused = 114 ∷ 101 ∷ 102 ∷ 117 ∷ 115 ∷ 101 ∷ 100 ∷ 32 ∷ []

abbrev pub #at : List ℕ
#at = 97 ∷ 116 ∷ 32 ∷ []

abbrev pub #none : List ℕ
#none = 110 ∷ 111 ∷ 110 ∷ 101 ∷ 32 ∷ 121 ∷ 101 ∷ 116 ∷ 32 ∷ []

-- refused R at P
unfoldable pub refused_text : Word → ℕ → List ℕ
refused_text word place = figure_text #refused (refusal_number word) ++ (#at ++ number_text place 10)

-- none yet caps C0 C1 rest R tries T floor F
unfoldable pub none_text : ℕ → ℕ → ℕ → ℕ → ℕ → List ℕ
none_text cap0 cap1 rest tries floor = #none ++ figures_text cap0 cap1 rest tries floor 10
