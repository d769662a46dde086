-- The first line and the comment of a written text are read back.
-- Assumes nothing.
use mathlib.Core.Bool.{Bool, true, false, not}
use mathlib.Core.List.{List, [], ◌∷◌, ◌++◌, append_assoc}
use mathlib.Core.Path.{◌≡◌, refl, sym, ◌∙◌, ap}
use Prim.Native.Nat.{ℕ, ◌+◌, ◌≤◌, ◌<◌}
use native.Mathlib.Omega.{arith}
use lib.Dec.{eqb}
use lib.ListN.{length, get_or, length-append}
use borrow.Author.Tests.{lt-ltb, ne_eqb}
use Rattle.counting.specs.Tests.{◌and◌, ◌or◌, pick}
use Rattle.counting.proofs.Joined.{and_intro, or_right}
use Rattle.scanning.specs.declared.Field.TheVariants.{Integer}
use Rattle.scanning.specs.declared.Stretch.TheVariants.{Line}
use Rattle.scanning.specs.Classes.{between, class_of, small_letter, cased, stretches_over, is_percent}
use Rattle.scanning.specs.Lines.{past, stretches_at, stretch_end, line_end, line_next, empty_line, is_comment, skipped, size_line_at}
use Rattle.scanning.specs.Words.{word_at, spells, same_word, ends_at}
use Rattle.scanning.proofs.Scans.{size_on}
use Rattle.texts.specs.Header.{field_at, banner_at}
use Rattle.writing.specs.declared.Figures.{Figures}
use Rattle.writing.specs.Written.{decimals, number_text, figure_text, #volume, #caps, #rest, #tries, #floor, caps_text, figures_text, #stopped, #complete, #first-line, ending_text, comment_text}
use Rattle.writing.proofs.Held.{Holds, holds-left, holds_as, holds_itself, every, every_append, digit_class, decimals-every}
use Rattle.writing.proofs.Back.{plain, end_back, next-back}

-- the first line without its LF
abbrev pub #first-body : List ℕ
#first-body =
    37 ∷ 37 ∷ 77 ∷ 97 ∷ 116 ∷ 114 ∷ 105 ∷ 120 ∷ 77 ∷ 97 ∷ 114 ∷ 107 ∷ 101 ∷ 116 ∷ 32 ∷ 109 ∷ 97 ∷ 116 ∷ 114 ∷ 105 ∷ 120 ∷ 32 ∷ 99 ∷ 111 ∷ 111 ∷ 114 ∷ 100 ∷ 105 ∷ 110 ∷ 97 ∷ 116 ∷ 101 ∷ 32 ∷ 105 ∷ 110 ∷ 116 ∷ 101 ∷ 103 ∷ 101 ∷ 114 ∷ 32 ∷ 103 ∷ 101 ∷ 110 ∷ 101 ∷ 114 ∷ 97 ∷ 108 ∷ []

first_plain : every plain #first-body ≡ true
unfolding every plain class_of between ◌and◌ ◌or◌ pick
first_plain = refl

module _ (rest : List ℕ) where
  first_held : Holds (#first-line ++ rest) 0 (#first-body ++ (10 ∷ []))
  first_held = holds-left #first-line rest (holds_itself [] (#first-line ++ rest))

  -- the first line ends at 48, and the comment starts at 49
  pub first_end : line_end (#first-line ++ rest) 0 ≡ 48
  first_end = end_back (#first-line ++ rest) #first-body 0 first_held first_plain (omega (arith, length-append #first-line rest))

  pub first_next : line_next (#first-line ++ rest) 0 ≡ 49
  first_next = next-back (#first-line ++ rest) #first-body 0 first_held first_plain (omega (arith, length-append #first-line rest))

  -- it is a banner, with F = integer and general
  pub banner_back : banner_at (#first-line ++ rest) 48 ≡ (record { fine = true; field = Integer; symmetric = false })
  unfolding banner_at field_at word_at same_word spells ends_at stretch_end stretches_at past cased small_letter class_of between ◌and◌ ◌or◌ pick
  banner_back = refl

-- the bytes of the comment
pub digit_plain : (d : ℕ) → d < 10 → plain (48 + d) ≡ true
unfolding plain
digit_plain d l =
    and_intro (ap (stretches_over Line) (digit_class d l)) (ap not (ne_eqb (48 + d) 13 (λ e. omega arith)))

space_plain : every plain (32 ∷ []) ≡ true
unfolding every plain class_of between ◌and◌ ◌or◌ pick
space_plain = refl

pub number-plain : (n : ℕ) → every plain (number_text n 32) ≡ true
unfolding number_text
number-plain n = every_append plain (decimals 20 n) (32 ∷ []) (decimals-every plain digit_plain 20 n) space_plain

figure_plain : (label : List ℕ) (n : ℕ) → every plain label ≡ true → every plain (figure_text label n) ≡ true
unfolding figure_text
figure_plain label n h = every_append plain label (number_text n 32) h (number-plain n)

-- the end of the comment without its LF
unfoldable pub ending_body : ℕ → List ℕ
ending_body complete =
    pick (eqb complete 0) (115 ∷ 116 ∷ 111 ∷ 112 ∷ 112 ∷ 101 ∷ 100 ∷ []) (99 ∷ 111 ∷ 109 ∷ 112 ∷ 108 ∷ 101 ∷ 116 ∷ 101 ∷ [])

ending_body_lem : (complete : ℕ) → ending_text complete ≡ ending_body complete ++ (10 ∷ [])
unfolding ending_text ending_body pick
ending_body_lem complete = by_case (eqb complete 0)
  where
    by_case : (b : Bool) → pick b #stopped #complete ≡ pick b (115 ∷ 116 ∷ 111 ∷ 112 ∷ 112 ∷ 101 ∷ 100 ∷ []) (99 ∷ 111 ∷ 109 ∷ 112 ∷ 108 ∷ 101 ∷ 116 ∷ 101 ∷ []) ++ (10 ∷ [])
    by_case true = refl
    by_case false = refl

ending-plain : (complete : ℕ) → every plain (ending_body complete) ≡ true
unfolding ending_body every plain class_of between ◌and◌ ◌or◌ pick
ending-plain complete = by_case (eqb complete 0)
  where
    by_case : (b : Bool) → every plain (pick b (115 ∷ 116 ∷ 111 ∷ 112 ∷ 112 ∷ 101 ∷ 100 ∷ []) (99 ∷ 111 ∷ 109 ∷ 112 ∷ 108 ∷ 101 ∷ 116 ∷ 101 ∷ [])) ≡ true
    by_case true = refl
    by_case false = refl

-- the comment without its LF
unfoldable pub comment_body : Figures → List ℕ
comment_body f =
    figure_text #volume f.volume ++ (figures_text f.cap0 f.cap1 f.rest f.tries f.floor 32 ++ ending_body f.complete)

pub comment_body_lem : (f : Figures) → comment_text f ≡ comment_body f ++ (10 ∷ [])
unfolding comment_text comment_body
comment_body_lem f = rw (ending_body_lem f.complete) (sym (simp append_assoc))

labels_plain :
    (every plain #volume ≡ true) × (every plain #caps ≡ true) × (every plain #rest ≡ true) × (every plain #tries ≡ true) × (every plain #floor ≡ true)
unfolding every plain class_of between ◌and◌ ◌or◌ pick
labels_plain = (refl, refl, refl, refl, refl)

caps_plain : (cap0 cap1 : ℕ) → every plain (caps_text cap0 cap1) ≡ true
unfolding caps_text
caps_plain cap0 cap1 = every_append plain _ _ (figure_plain #caps cap0 labels_plain.1) (number-plain cap1)

figures-plain : (cap0 cap1 rest tries floor : ℕ) → every plain (figures_text cap0 cap1 rest tries floor 32) ≡ true
unfolding figures_text
figures-plain cap0 cap1 rest tries floor =
    every_append plain _ _ (caps_plain cap0 cap1)
    (every_append plain _ _ (figure_plain #rest rest labels_plain.2)
    (every_append plain _ _ (figure_plain #tries tries labels_plain.3)
    (every_append plain _ _ labels_plain.4 (number-plain floor))))

pub comment_plain : (f : Figures) → every plain (comment_body f) ≡ true
unfolding comment_body
comment_plain f =
    every_append plain _ _ (figure_plain #volume f.volume labels_plain.0)
    (every_append plain _ _ (figures-plain f.cap0 f.cap1 f.rest f.tries f.floor) (ending-plain f.complete))

percent_first : (f : Figures) → get_or (comment_text f) 0 0 ≡ 37
unfolding comment_text figure_text
percent_first f = refl

percent_class : is_percent (class_of 37) ≡ true
unfolding class_of between ◌and◌ ◌or◌ pick
percent_class = refl

comment_some : (f : Figures) → 1 ≤ length (comment_text f)
comment_some f = omega (arith, ap length (comment_body_lem f), length-append (comment_body f) (10 ∷ []))

comment_first :
    (text : List ℕ) (f : Figures) (at : ℕ) → Holds text at (comment_text f) → at + length (comment_body f) < length text → skipped text at ≡ true
unfolding skipped is_comment
comment_first text f at held room =
    let e : at + 0 ≡ at = omega arith in
    let there = ap (λ k. get_or text k 0) (sym e) ∙ held.at_each 0 (comment_some f) ∙ percent_first f in
    and_intro (lt-ltb at (length text) (omega arith)) (or_right (empty_line text at) (ap (λ b. is_percent (class_of b)) there ∙ percent_class))

-- a comment is skipped: the size line is looked for after it
pub comment_skipped :
    (text : List ℕ) (f : Figures) (at : ℕ) → Holds text at (comment_text f) → at + length (comment_body f) < length text →
    size_line_at text (length text) at ≡ size_line_at text (length text) (at + length (comment_body f) + 1)
comment_skipped text f at held room =
    size_on text at (comment_first text f at held room)
    ∙ ap (size_line_at text (length text)) (next-back text (comment_body f) at (holds_as (comment_body_lem f) held) (comment_plain f) room)
