-- Laws of texts put one after another.
-- Assumes nothing.
use mathlib.Core.List.{List, [], ◌∷◌, ◌++◌}
use mathlib.Core.Path.{◌≡◌, refl, sym, ◌∙◌, ap}
use Prim.Native.Nat.{ℕ, suc, ◌+◌, ◌≤◌}
use native.Mathlib.Omega.{arith}
use lib.Dec.{eqb}
use lib.ListN.{length, get_or, set, length-append}
use lib.Seq.{sets, set_out}
use Rattle.counting.proofs.Joined.{by_test, pick_true, pick-false}
use Rattle.model.specs.Pattern.{row_in, column_in}
use Rattle.writing.specs.declared.Figures.{Figures}
use Rattle.writing.specs.Written.{Puts, decimals, number_text, figure_text, #volume, #caps, #rest, #tries, #floor, caps_text, figures_text, #stopped, #complete, #first-line, ending_text, comment_text, sizes_text, entry_text, head_text}
use Rattle.writing.proofs.Decimals.{decimals_short}

-- a text put after another
pub sets_append : (vs ws l : List ℕ) (i : ℕ) → sets l i (vs ++ ws) ≡ sets (sets l i vs) (i + length vs) ws
sets_append [] ws l i =
    let e : i + 0 ≡ i = omega arith in
    ap (λ k. sets l k ws) (sym e)
sets_append (v ∷ vs) ws l i =
    let e : suc i + length vs ≡ i + suc (length vs) = omega arith in
    sets_append vs ws (set l i v) (suc i) ∙ ap (λ k. sets (sets (set l i v) (suc i) vs) k ws) e

pub puts_none : (page : List ℕ) (at : ℕ) → Puts page at [] page at
puts_none page at = record { after = omega arith; bytes = refl }

pub puts_then :
    {page first last s t : List ℕ} {at mid next : ℕ} → Puts page at s first mid → Puts first mid t last next →
    Puts page at (s ++ t) last next
puts_then {page} {first} {last} {s} {t} {at} {mid} {next} p q =
    record {
      after = omega (arith, p.after, q.after, length-append s t);
      bytes =
          q.bytes ∙ ap (λ x. sets x mid t) p.bytes ∙ ap (λ k. sets (sets page at s) k t) p.after ∙ sym (sets_append s t page at);
    }

-- past the end of a page nothing is put
sets-past : (text page : List ℕ) (at : ℕ) → length page ≤ at → sets page at text ≡ page
sets-past [] page at l = refl
sets-past (b ∷ text) page at l =
    ap (λ x. sets x (suc at) text) (set_out page at b l) ∙ sets-past text page (suc at) (omega arith)

pub puts_past : (page text : List ℕ) (at count : ℕ) → length page ≤ at → count ≡ length text → Puts page at text page (at + count)
puts_past page text at count l e = record { after = ap (λ x. at + x) e; bytes = sym (sets-past text page at l) }

-- another text that is equal
pub puts_as : {page new s t : List ℕ} {at next : ℕ} → s ≡ t → Puts page at s new next → Puts page at t new next
puts_as e p = rw e at p

-- the place after a text that is no longer than this
pub ends_within : {page new text : List ℕ} {at next most : ℕ} → length text ≤ most → Puts page at text new next → next ≤ at + most
ends_within {page} {new} {text} {at} {next} {most} h p = omega (arith, h, p.after)

pub number_short : (n b : ℕ) → length (number_text n b) ≤ 21
unfolding number_text
number_short n b = omega (arith, length-append (decimals 20 n) (b ∷ []), decimals_short 20 n)

pub sizes_short : (m n nonzeros : ℕ) → length (sizes_text m n nonzeros) ≤ 63
unfolding sizes_text
sizes_short m n nonzeros =
    omega
    (arith, length-append (number_text m 32) (number_text n 32 ++ number_text nonzeros 10), length-append (number_text n 32) (number_text nonzeros 10), number_short m 32, number_short n 32, number_short nonzeros 10)

pub figure_short : (label : List ℕ) (n : ℕ) → length (figure_text label n) ≤ length label + 21
unfolding figure_text
figure_short label n = omega (arith, length-append label (number_text n 32), number_short n 32)

pub caps_short : (cap0 cap1 : ℕ) → length (caps_text cap0 cap1) ≤ 47
unfolding caps_text
caps_short cap0 cap1 =
    omega (arith, length-append (figure_text #caps cap0) (number_text cap1 32), figure_short #caps cap0, number_short cap1 32)

pub figures-short : (cap0 cap1 rest tries floor b : ℕ) → length (figures_text cap0 cap1 rest tries floor b) ≤ 127
unfolding figures_text
figures-short cap0 cap1 rest tries floor b =
    let last = #floor ++ number_text floor b in
    let third = figure_text #tries tries ++ last in
    let second = figure_text #rest rest ++ third in
    omega
    (arith, length-append (caps_text cap0 cap1) second, length-append (figure_text #rest rest) third, length-append (figure_text #tries tries) last, length-append #floor (number_text floor b), caps_short cap0 cap1, figure_short #rest rest, figure_short #tries tries, number_short floor b)

pub ending-short : (complete : ℕ) → length (ending_text complete) ≤ 9
unfolding ending_text
ending-short complete =
    by_test
    (eqb complete 0)
    (λ e. omega (arith, ap length (pick_true #stopped #complete e)))
    (λ e. omega (arith, ap length (pick-false #stopped #complete e)))

pub comment_short : (f : Figures) → length (comment_text f) ≤ 166
unfolding comment_text
comment_short f =
    let volume = figure_text #volume f.volume in
    let figures = figures_text f.cap0 f.cap1 f.rest f.tries f.floor 32 in
    omega
    (arith, length-append volume (figures ++ ending_text f.complete), length-append figures (ending_text f.complete), figure_short #volume f.volume, figures-short f.cap0 f.cap1 f.rest f.tries f.floor 32, ending-short f.complete)

pub entry_short : (list parts : List ℕ) (t : ℕ) → length (entry_text list parts t) ≤ 63
unfolding entry_text
entry_short list parts t = sizes_short (row_in list t + 1) (column_in list t + 1) (get_or parts t 0 + 1)

pub head_short : (f : Figures) → length (head_text f) ≤ 215
unfolding head_text
head_short f = omega (arith, length-append #first-line (comment_text f), comment_short f)
