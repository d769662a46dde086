-- The worked text of document 01, with an empty line between its two entries: where its lines after the size line start, and what they give. A symmetric
-- text: which of its entries are on the diagonal.
-- Assumes nothing.
use Rattle.std.specs.Prelude.{true, false, List, [], ◌∷◌, ◌++◌, ◌≡◌, refl, ℕ, length}
use Rattle.counting.specs.Sums.{count}
use Rattle.texts.specs.Header.{#banner, #matrix, #coordinate, #pattern, #general, #symmetric}
use Rattle.texts.specs.Computing.{computing}
use Rattle.readback.specs.TextSays.{line_below, is_entry, entry_below, on_diagonal}

-- %%MatrixMarket matrix coordinate pattern general LF 2 2 2 LF 2 2 LF LF 1 1 LF
abbrev worked : List ℕ
worked =
    #banner ++ (32 ∷ #matrix) ++ (32 ∷ #coordinate) ++ (32 ∷ #pattern) ++ (32 ∷ #general)
    ++ (10 ∷ 50 ∷ 32 ∷ 50 ∷ 32 ∷ 50 ∷ 10 ∷ 50 ∷ 32 ∷ 50 ∷ 10 ∷ 10 ∷ 49 ∷ 32 ∷ 49 ∷ 10 ∷ [])

-- to unfold this is to unfold every definition that a sample computes with
lining : Type 0
unfolding computing line_below is_entry entry_below on_diagonal
lining = Unit

-- three lines, and then the text's end
line_offsets : (line_below worked 0 ≡ 55) × (line_below worked 1 ≡ 59) × (line_below worked 2 ≡ 60) × (line_below worked 3 ≡ length worked)
unfolding lining
line_offsets = (refl, refl, refl, refl)

-- the first and the third are entries, the empty one is not
entry_lines : (is_entry worked 0 ≡ true) × (is_entry worked 1 ≡ false) × (is_entry worked 2 ≡ true) × (is_entry worked 3 ≡ false)
unfolding lining
entry_lines = (refl, refl, refl, refl)

entry_number : count (is_entry worked) (length worked) ≡ 2
unfolding lining
entry_number = refl

-- they give (2, 2) and (1, 1)
entries : (entry_below worked 0 ≡ (record { first = 2; second = 2; third = 1 })) × (entry_below worked 2 ≡ (record { first = 1; second = 1; third = 1 }))
unfolding lining
entries = (refl, refl)

-- %%MatrixMarket matrix coordinate pattern symmetric LF 2 2 2 LF 2 1 LF 1 1 LF
abbrev folded : List ℕ
folded =
    #banner ++ (32 ∷ #matrix) ++ (32 ∷ #coordinate) ++ (32 ∷ #pattern) ++ (32 ∷ #symmetric)
    ++ (10 ∷ 50 ∷ 32 ∷ 50 ∷ 32 ∷ 50 ∷ 10 ∷ 50 ∷ 32 ∷ 49 ∷ 10 ∷ 49 ∷ 32 ∷ 49 ∷ 10 ∷ [])

-- two entries, of which the second is on the diagonal
diagonal : (count (is_entry folded) (length folded) ≡ 2) × (on_diagonal folded 0 ≡ false) × (on_diagonal folded 1 ≡ true) × (count (on_diagonal folded) (length folded) ≡ 1)
unfolding lining
diagonal = (refl, refl, refl, refl)
