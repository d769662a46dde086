-- First line, comment and size line of a written text are read back.
-- Assumes nothing.
use mathlib.Core.Bool.{true, false, not}
use mathlib.Core.List.{List, [], ◌∷◌, ◌++◌, append_assoc}
use mathlib.Core.Path.{◌≡◌, sym, ◌∙◌, ap}
use Prim.Native.Nat.{ℕ, ◌+◌, ◌^◌, ◌<◌}
use native.Mathlib.Omega.{arith}
use lib.Dec.{ltb}
use lib.ListN.{length, get_or, length-append}
use borrow.Author.Tests.{not-true}
use Rattle.counting.proofs.Joined.{or_fails, and_fails_right}
use Rattle.scanning.specs.declared.Field.TheVariants.{Integer}
use Rattle.scanning.specs.Classes.{class_of, is_percent}
use Rattle.scanning.specs.Lines.{is_comment, skipped, size_line_at}
use Rattle.scanning.proofs.Scans.{size_here}
use Rattle.texts.specs.Header.{header_of}
use Rattle.writing.specs.declared.Figures.{Figures}
use Rattle.writing.specs.Written.{decimals, number_text, sizes_text, #first-line, comment_text, entries_text, head_text, body_text, text_of}
use Rattle.writing.proofs.Decimals.{decimals-some}
use Rattle.writing.proofs.Held.{Holds, holds-left, holds_right, holds_itself, every_at, digit_class, decimals-every}
use Rattle.writing.proofs.Back.{line_over, sizes_length}
use Rattle.writing.proofs.Top.{first_end, first_next, banner_back, comment_body, comment_body_lem, comment_skipped}
use Rattle.writing.proofs.Rows.{row_next, row-filled, row_numbers}

-- a line that starts with a number is no comment
no_comment : (text : List ℕ) (at n : ℕ) → Holds text at (decimals 20 n) → is_comment text at ≡ false
unfolding is_comment
no_comment text at n h =
    let e : at + 0 ≡ at = omega arith in
    let there = ap (λ k. get_or text k 0) (sym e) ∙ h.at_each 0 (decimals-some 19 n) in
    let first = every_at (λ b. not (is_percent (class_of b))) (decimals 20 n) 0 (decimals-every (λ b. not (is_percent (class_of b))) (λ d l. ap (λ x. not (is_percent x)) (digit_class d l)) 20 n) (decimals-some 19 n) in
    ap (λ b. is_percent (class_of b)) there ∙ not-true (is_percent (class_of (get_or (decimals 20 n) 0 0))) first

-- where the size line of a written text starts
abbrev pub size_at : Figures → ℕ
size_at f = 49 + length (comment_body f) + 1

-- a text of these pieces
abbrev pub laid_out : Figures → ℕ → ℕ → ℕ → List ℕ → List ℕ
laid_out f m n nonzeros entries = #first-line ++ (comment_text f ++ (sizes_text m n nonzeros ++ entries))

pub text-laid :
    (m n nonzeros : ℕ) (list parts : List ℕ) (f : Figures) →
    text_of m n nonzeros list parts f ≡ laid_out f m n nonzeros (entries_text list parts nonzeros)
unfolding text_of head_text body_text
text-laid m n nonzeros list parts f = simp append_assoc

module _ (f : Figures) (m n nonzeros : ℕ) (entries : List ℕ) (sm : m < 10 ^ 9) (sn : n < 10 ^ 9) (sz : nonzeros < 10 ^ 9) where
  below : Holds (laid_out f m n nonzeros entries) 49 (comment_text f ++ (sizes_text m n nonzeros ++ entries))
  below = holds_itself #first-line (comment_text f ++ (sizes_text m n nonzeros ++ entries))

  comment_length : length (comment_text f) ≡ length (comment_body f) + 1
  comment_length = ap length (comment_body_lem f) ∙ length-append (comment_body f) (10 ∷ [])

  pub text-length :
      length (laid_out f m n nonzeros entries) ≡ line_over (size_at f) m n nonzeros + 1 + length entries
  text-length =
      omega
      (arith, length-append #first-line (comment_text f ++ (sizes_text m n nonzeros ++ entries)), length-append (comment_text f) (sizes_text m n nonzeros ++ entries), length-append (sizes_text m n nonzeros) entries, comment_length, sizes_length (size_at f) m n nonzeros)

  pub after_comment : Holds (laid_out f m n nonzeros entries) (size_at f) (sizes_text m n nonzeros ++ entries)
  after_comment =
      let e : 49 + length (comment_text f) ≡ size_at f = omega (arith, comment_length) in
      rw e at (holds_right (comment_text f) (sizes_text m n nonzeros ++ entries) below)

  held_sizes : Holds (laid_out f m n nonzeros entries) (size_at f) (sizes_text m n nonzeros)
  held_sizes = holds-left (sizes_text m n nonzeros) entries after_comment

  room : line_over (size_at f) m n nonzeros < length (laid_out f m n nonzeros entries)
  room = omega (arith, text-length)

  not-skipped : skipped (laid_out f m n nonzeros entries) (size_at f) ≡ false
  unfolding skipped sizes_text number_text
  not-skipped =
      and_fails_right
      (ltb (size_at f) (length (laid_out f m n nonzeros entries)))
      (or_fails
      (row-filled (laid_out f m n nonzeros entries) (size_at f) m n nonzeros held_sizes sm sn sz room)
      (no_comment (laid_out f m n nonzeros entries) (size_at f) m (holds-left (decimals 20 m) (32 ∷ []) (holds-left (number_text m 32) (number_text n 32 ++ number_text nonzeros 10) held_sizes))))

  size_line_lem : size_line_at (laid_out f m n nonzeros entries) (length (laid_out f m n nonzeros entries)) 49 ≡ size_at f
  size_line_lem =
      comment_skipped (laid_out f m n nonzeros entries) f 49 (holds-left (comment_text f) (sizes_text m n nonzeros ++ entries) below) (omega (arith, text-length))
      ∙ size_here (laid_out f m n nonzeros entries) (length (laid_out f m n nonzeros entries)) (size_at f) not-skipped

  -- the header of a written text
  pub header_back :
      header_of (laid_out f m n nonzeros entries)
      ≡ (record {
        fine = true;
        field = Integer;
        symmetric = false;
        sized = true;
        m = m;
        n = n;
        entries = nonzeros;
        at = size_at f;
        next = line_over (size_at f) m n nonzeros + 1;
      })
  unfolding header_of
  header_back =
      rw
      (first_end (comment_text f ++ (sizes_text m n nonzeros ++ entries)), banner_back (comment_text f ++ (sizes_text m n nonzeros ++ entries)), first_next (comment_text f ++ (sizes_text m n nonzeros ++ entries)), size_line_lem, row_numbers (laid_out f m n nonzeros entries) (size_at f) m n nonzeros held_sizes sm sn sz room, row_next (laid_out f m n nonzeros entries) (size_at f) m n nonzeros held_sizes sm sn sz room)
