-- The bytes of a number, written one after another.
-- Assumes nothing.
use mathlib.Core.Bool.{Bool}
use mathlib.Core.List.{List}
use mathlib.Core.Path.{◌≡◌, refl, sym, ◌∙◌, ap}
use Prim.Native.Nat.{ℕ, ◌+◌, ◌*◌, ◌/◌, ◌%◌, ◌^◌}
use native.Mathlib.Nat.{pow-suc, div-one, div-div-eq-div-mul}
use native.Mathlib.Numerals.{add-one}
use lib.ListN.{set}
use Rattle.model.specs.Calls.{complete_number}
use Rattle.gulzoreno.specs.Figures.{byte_of, low_bytes, with_figure, with_figures}

-- what is left of a number once none of its bytes is written
pub rest_first : (x : ℕ) → x ≡ x / 256 ^ 0
rest_first x = sym (div-one x)

-- what is left after one byte more
pub rest_more : (x i rest : ℕ) → rest ≡ x / 256 ^ i → rest / 256 ≡ x / 256 ^ (i + 1)
rest_more x i rest e =
    ap (λ (y : ℕ). y / 256) e
    ∙ div-div-eq-div-mul x (256 ^ i) 256
    ∙ ap (λ (y : ℕ). x / y) (sym (pow-suc 256 i) ∙ ap (λ (j : ℕ). 256 ^ j) (sym (add-one i)))

-- no byte is written
pub low_none : (at x : ℕ) (out : List ℕ) → out ≡ low_bytes at x 0 out
unfolding low_bytes
low_none at x out = refl

-- one byte more
pub low_more :
    (at x i rest : ℕ) (start out next : List ℕ) →
    out ≡ low_bytes at x i start → rest ≡ x / 256 ^ i → next ≡ set out (at + i) (rest % 256) →
    next ≡ low_bytes at x (i + 1) start
unfolding low_bytes byte_of
low_more at x i rest start out next e r h =
    h
    ∙ ap (λ (o : List ℕ). set o (at + i) (rest % 256)) e
    ∙ ap (λ (y : ℕ). set (low_bytes at x i start) (at + i) (y % 256)) r
    ∙ ap (λ (j : ℕ). low_bytes at x j start) (sym (add-one i))

-- all eight bytes of figure f
pub figure_written :
    (at f x i : ℕ) (start out : List ℕ) → at ≡ 8 * f → i ≡ 8 → out ≡ low_bytes at x i start → out ≡ with_figure f x start
unfolding with_figure
figure_written at f x i start out a e h =
    h ∙ ap (λ (y : ℕ). low_bytes y x i start) a ∙ ap (λ (j : ℕ). low_bytes (8 * f) x j start) e

-- the four figures, one after another
pub figures_written :
    (volume tries floor done : ℕ) (complete : Bool) (a b c d e : List ℕ) →
    b ≡ with_figure 0 volume a → c ≡ with_figure 1 tries b → d ≡ with_figure 2 floor c →
    done ≡ complete_number complete → e ≡ with_figure 3 done d → e ≡ with_figures volume tries floor complete a
unfolding with_figures
figures_written volume tries floor done complete a b c d e first second third is fourth =
    fourth
    ∙ ap (λ (x : ℕ). with_figure 3 x d) is
    ∙ ap
    (with_figure 3 (complete_number complete))
    (third ∙ ap (with_figure 2 floor) (second ∙ ap (with_figure 1 tries) first))
