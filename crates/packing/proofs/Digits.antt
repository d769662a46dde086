-- Laws of base-4 digits, of the words that hold them, and of the marks of words and a top.
-- Assumes nothing.
use mathlib.Core.List.{List, [], ◌∷◌, ◌++◌}
use mathlib.Core.Path.{◌≡◌, refl, sym, ◌∙◌, ap}
use Prim.Native.Nat.{ℕ, zero, suc, ◌+◌, ◌-◌, ◌*◌, ◌/◌, ◌%◌, ◌≤◌, ◌<◌}
use native.Mathlib.Nat.{mul_assoc, div-add-mod', mod-lt, mod-eq_of_lt, mul-add-mod_self_right}
use native.Mathlib.Omega.{arith}
use lib.ListN.{get_or, set}
use lib.Seq.{get_or-set_other}
use Rattle.counting.proofs.Joined.{no_way}
use Rattle.packing.specs.Packed.{word_marks, top_room, digits, words_in, full_words, top_marks, marks_of, earlier, last_of}

-- the lowest digit, and the others
digits-first : (n v : ℕ) → digits (suc n) v ≡ v % 4 ∷ digits n (v / 4)
unfolding digits
digits-first n v = refl

digits-one : (v : ℕ) → digits 1 v ≡ v % 4 ∷ []
unfolding digits
digits-one v = refl

-- 4 to the power of n
unfoldable fours : ℕ → ℕ
fours zero = 1
fours (suc n) = fours n * 4

fours-some : (n : ℕ) → 1 ≤ fours n
unfolding fours
fours-some zero = omega arith
fours-some (suc n) = omega (arith, fours-some n)

-- the lowest digit of a remainder, and its other digits
rem_first : (k v : ℕ) → v % (k * 4) % 4 ≡ v % 4
rem_first k v =
    omega (arith, div-add-mod' v (k * 4), mul_assoc (v / (k * 4)) k 4)

rem_rest : (k v : ℕ) → 1 ≤ k → v % (k * 4) / 4 ≡ v / 4 % k
rem_rest k v b =
    let whole = div-add-mod' v (k * 4) in
    let grouped = mul_assoc (v / (k * 4)) k 4 in
    let small = mod-lt v {m = k * 4} (omega arith) in
    let parted : v / 4 ≡ v / (k * 4) * k + v % (k * 4) / 4 = omega arith in
    let less : v % (k * 4) / 4 < k = omega arith in
    sym
    (ap (◌% k) parted
    ∙ mul-add-mod_self_right (v / (k * 4)) k (v % (k * 4) / 4)
    ∙ mod-eq_of_lt less)

-- a remainder has the lowest digits of the number
digits_rem : (n m v : ℕ) → n ≤ m → digits n (v % fours m) ≡ digits n v
unfolding digits fours
digits_rem zero m v b = refl
digits_rem (suc n) zero v b = no_way (omega arith)
digits_rem (suc n) (suc m) v b =
    ap (λ (x : ℕ). x ∷ digits n (v % (fours m * 4) / 4)) (rem_first (fours m) v)
    ∙ ap (λ (y : ℕ). v % 4 ∷ digits n y) (rem_rest (fours m) v (fours-some m))
    ∙ ap (v % 4 ∷◌) (digits_rem n m (v / 4) (omega arith))

-- the last of some words, and those before it
words_last : (words : List ℕ) (w : ℕ) → words_in words (suc w) ≡ digits word_marks (get_or words w 0) ++ words_in words w
unfolding words_in
words_last words w = refl

-- a word that is set leaves those before it
words_set : (words : List ℕ) (i w v : ℕ) → w ≤ i → words_in (set words i v) w ≡ words_in words w
unfolding words_in
words_set words i zero v b = refl
words_set words i (suc w) v b =
    ap
    (λ (x : ℕ). digits word_marks x ++ words_in (set words i v) w)
    (get_or-set_other words i w v 0 (λ e. no_way (omega arith)))
    ∙ ap (digits word_marks (get_or words w 0) ++◌) (words_set words i w v (omega arith))

-- no marks
pub marks_none : (words : List ℕ) (v : ℕ) → marks_of words v 0 ≡ []
unfolding marks_of digits words_in
marks_none words v = refl

-- the last mark is the lowest digit of the top
pub marks_last : (words : List ℕ) (v len : ℕ) → 0 < len → last_of (marks_of words v len) ≡ v % 4
unfolding marks_of last_of
marks_last words v len b =
    let some : top_marks len ≡ suc (top_marks len - 1) = omega arith in
    rw (some, digits-first)

-- a mark more in a top that is not full
pub marks_within :
    (words : List ℕ) (v at : ℕ) → (at % word_marks ≡ 0 → ⊥) → marks_of words v (at + 1) ≡ v % 4 ∷ marks_of words (v / 4) at
unfolding marks_of
marks_within words v at d =
    let more : top_marks (at + 1) ≡ suc (top_marks at) = omega arith in
    let same : full_words (at + 1) ≡ full_words at = omega arith in
    rw (more, same, digits-first)

-- the first mark
pub marks_one : (words other : List ℕ) (v u : ℕ) → marks_of words v 1 ≡ v % 4 ∷ marks_of other u 0
unfolding marks_of digits words_in
marks_one words other v u = refl

-- a mark more where the top was full, and is now the last word
pub marks_full :
    (words : List ℕ) (v at : ℕ) → at % word_marks ≡ 0 → 0 < at →
    marks_of words v (at + 1) ≡ v % 4 ∷ marks_of words (get_or words (at / word_marks - 1) 0) at
unfolding marks_of
marks_full words v at d b =
    let one : top_marks (at + 1) ≡ 1 = omega arith in
    let word : full_words (at + 1) ≡ suc (at / word_marks - 1) = omega arith in
    let whole : top_marks at ≡ word_marks = omega arith in
    let before : full_words at ≡ at / word_marks - 1 = omega arith in
    rw (one, word, whole, before, digits-one, words_last)

-- a top that is not full may be cut off above its digits
pub marks_rem :
    (words : List ℕ) (v at : ℕ) → (at % word_marks ≡ 0 → ⊥) → marks_of words (v % top_room) at ≡ marks_of words v at
unfolding marks_of fours
marks_rem words v at d =
    let few : top_marks at ≤ 31 = omega arith in
    ap (◌++ words_in words (full_words at)) (digits_rem (top_marks at) 31 v few)

-- the word that a full top becomes is none of those below that top
pub marks_set :
    (words : List ℕ) (v u at : ℕ) → at % word_marks ≡ 0 → marks_of (set words (at / word_marks - 1) u) v at ≡ marks_of words v at
unfolding marks_of
marks_set words v u at d =
    ap (digits (top_marks at) v ++◌) (words_set words (at / word_marks - 1) (full_words at) u (omega arith))

-- another last mark
pub marks_replace :
    (words : List ℕ) (v x len : ℕ) → 0 < len → x < 4 → marks_of words (v / 4 * 4 + x) len ≡ x ∷ earlier (marks_of words v len)
unfolding marks_of earlier
marks_replace words v x len b l =
    let some : top_marks len ≡ suc (top_marks len - 1) = omega arith in
    let low : (v / 4 * 4 + x) % 4 ≡ x = omega arith in
    let rest : (v / 4 * 4 + x) / 4 ≡ v / 4 = omega arith in
    rw (some, digits-first (top_marks len - 1) (v / 4 * 4 + x), digits-first (top_marks len - 1) v, low, rest)
