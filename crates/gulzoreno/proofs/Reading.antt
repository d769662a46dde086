-- Figures that were written are read back as the numbers that they were.
-- Assumes nothing.
use mathlib.Core.Bool.{Bool}
use mathlib.Core.List.{List}
use mathlib.Core.Logic.{⊎_elim}
use mathlib.Core.Path.{◌≡◌, refl, sym, ◌∙◌, ap}
use Prim.Native.Nat.{ℕ, zero, suc, ◌+◌, ◌*◌, ◌/◌, ◌%◌, ◌^◌, ◌≤◌, ◌<◌}
use native.Mathlib.Nat.{eq-or-lt_of_le, le_of_suc-le-suc, add_comm, add_assoc, add-mul, mul_assoc, mul_right_comm, pow-suc, div-one, div-add-mod', div-div-eq-div-mul}
use native.Mathlib.Omega.{arith}
use lib.ListN.{length, get_or, length-set}
use lib.Seq.{get_or-set_same, get_or-set_other}
use Rattle.counting.specs.Sums.{sum}
use Rattle.counting.proofs.Joined.{no_way, bit_le_one}
use Rattle.counting.proofs.Summed.{sum-none, sum-suc, sum_eq}
use Rattle.model.specs.Calls.{complete_number}
use Rattle.gulzoreno.specs.Figures.{figures_bytes, byte_of, low_bytes, with_figure, with_figures}
use Rattle.gulzoreno.specs.Promise.{figure_in}

-- the bytes of a number make up the number, once nothing is left of it
one_more : (b y : ℕ) → y % 256 * b + y / 256 * (b * 256) ≡ y * b
one_more b y =
    ap (λ (z : ℕ). y % 256 * b + z) (sym (mul_assoc (y / 256) b 256) ∙ mul_right_comm (y / 256) b 256)
    ∙ add_comm (y % 256 * b) (y / 256 * 256 * b)
    ∙ sym (ap (λ (z : ℕ). z * b) (sym (div-add-mod' y 256)) ∙ add-mul (y / 256 * 256) (y % 256) b)

bytes-sum : (x n : ℕ) → sum (λ i. byte_of x i * 256 ^ i) n + x / 256 ^ n * 256 ^ n ≡ x
unfolding byte_of
bytes-sum x zero = omega (arith, sum-none (λ i. byte_of x i * 256 ^ i), div-one x)
bytes-sum x (suc n) =
    let left : x / 256 ^ suc n ≡ x / 256 ^ n / 256 =
    ap (λ (z : ℕ). x / z) (pow-suc 256 n) ∙ sym (div-div-eq-div-mul x (256 ^ n) 256) in
    let rest : x / 256 ^ suc n * 256 ^ suc n ≡ x / 256 ^ n / 256 * (256 ^ n * 256) =
    ap (λ (z : ℕ). z * 256 ^ suc n) left ∙ ap (λ (z : ℕ). x / 256 ^ n / 256 * z) (pow-suc 256 n) in
    ap (λ (z : ℕ). z + x / 256 ^ suc n * 256 ^ suc n) (sum-suc (λ i. byte_of x i * 256 ^ i) n)
    ∙ ap (λ (z : ℕ). sum (λ i. byte_of x i * 256 ^ i) n + x / 256 ^ n % 256 * 256 ^ n + z) rest
    ∙ add_assoc (sum (λ i. byte_of x i * 256 ^ i) n) (x / 256 ^ n % 256 * 256 ^ n) (x / 256 ^ n / 256 * (256 ^ n * 256))
    ∙ ap (λ (z : ℕ). sum (λ i. byte_of x i * 256 ^ i) n + z) (one_more (256 ^ n) (x / 256 ^ n))
    ∙ bytes-sum x n

-- the bytes in a buffer
low-length : (at x n : ℕ) (out : List ℕ) → length (low_bytes at x n out) ≡ length out
unfolding low_bytes
low-length at x zero out = refl
low-length at x (suc n) out = simp length-set (low-length at x n out)

low-before : (at x n j : ℕ) (out : List ℕ) → j < at → get_or (low_bytes at x n out) j 0 ≡ get_or out j 0
unfolding low_bytes
low-before at x zero j out h = refl
low-before at x (suc n) j out h =
    get_or-set_other (low_bytes at x n out) (at + n) j (byte_of x n) 0 (λ e. no_way (omega arith))
    ∙ low-before at x n j out h

low_in_lem :
    (at x n i : ℕ) (out : List ℕ) → at + n ≤ length out → i < n →
    get_or (low_bytes at x n out) (at + i) 0 ≡ byte_of x i
unfolding low_bytes
low_in_lem at x zero i out fits b = no_way (omega arith)
low_in_lem at x (suc n) i out fits b =
    ⊎_elim
    (λ e. ap (λ (j : ℕ). get_or (low_bytes at x (suc n) out) (at + j) 0) e
    ∙ get_or-set_same (low_bytes at x n out) (at + n) (byte_of x n) 0 (omega (arith, low-length at x n out))
    ∙ ap (byte_of x) (sym e))
    (λ l. get_or-set_other (low_bytes at x n out) (at + n) (at + i) (byte_of x n) 0 (λ e. no_way (omega arith))
    ∙ low_in_lem at x n i out (omega arith) l)
    (eq-or-lt_of_le (le_of_suc-le-suc b))

-- a figure that was written, and an earlier one after that
figure_length : (f x : ℕ) (out : List ℕ) → length (with_figure f x out) ≡ length out
unfolding with_figure
figure_length f x out = low-length (8 * f) x 8 out

figure_back :
    (f x : ℕ) (out : List ℕ) → 8 * f + 8 ≤ length out → x < 256 ^ 8 → figure_in f (with_figure f x out) ≡ x
unfolding figure_in with_figure
figure_back f x out fits small =
    sum_eq
    (λ i. get_or (low_bytes (8 * f) x 8 out) (8 * f + i) 0 * 256 ^ i)
    (λ i. byte_of x i * 256 ^ i)
    8
    (λ i b. ap (λ (y : ℕ). y * 256 ^ i) (low_in_lem (8 * f) x 8 i out fits b))
    ∙ omega (arith, bytes-sum x 8)

figure_kept :
    (f g x : ℕ) (out : List ℕ) → f < g → figure_in f (with_figure g x out) ≡ figure_in f out
unfolding figure_in with_figure
figure_kept f g x out h =
    sum_eq
    (λ i. get_or (low_bytes (8 * g) x 8 out) (8 * f + i) 0 * 256 ^ i)
    (λ i. get_or out (8 * f + i) 0 * 256 ^ i)
    8
    (λ i b. ap (λ (y : ℕ). y * 256 ^ i) (low-before (8 * g) x 8 (8 * f + i) out (omega arith)))

-- all four
module _
    (volume tries floor : ℕ) (complete : Bool) (out : List ℕ) (fits : figures_bytes ≤ length out)
    (volume-small : volume < 256 ^ 8) (tries-small : tries < 256 ^ 8) (floor-small : floor < 256 ^ 8) where
  abbrev one : List ℕ
  one = with_figure 0 volume out

  abbrev two : List ℕ
  two = with_figure 1 tries one

  abbrev three : List ℕ
  three = with_figure 2 floor two

  length-one : length one ≡ length out
  length-one = figure_length 0 volume out

  length_two : length two ≡ length out
  length_two = figure_length 1 tries one ∙ length-one

  length_three : length three ≡ length out
  length_three = figure_length 2 floor two ∙ length_two

  pub volume-back : figure_in 0 (with_figures volume tries floor complete out) ≡ volume
  unfolding with_figures
  volume-back =
      figure_kept 0 3 (complete_number complete) three (omega arith)
      ∙ figure_kept 0 2 floor two (omega arith)
      ∙ figure_kept 0 1 tries one (omega arith)
      ∙ figure_back 0 volume out (omega arith) volume-small

  pub tries_back : figure_in 1 (with_figures volume tries floor complete out) ≡ tries
  unfolding with_figures
  tries_back =
      figure_kept 1 3 (complete_number complete) three (omega arith)
      ∙ figure_kept 1 2 floor two (omega arith)
      ∙ figure_back 1 tries one (omega (arith, length-one)) tries-small

  pub floor-back : figure_in 2 (with_figures volume tries floor complete out) ≡ floor
  unfolding with_figures
  floor-back =
      figure_kept 2 3 (complete_number complete) three (omega arith)
      ∙ figure_back 2 floor two (omega (arith, length_two)) floor-small

  pub complete_back : figure_in 3 (with_figures volume tries floor complete out) ≡ complete_number complete
  unfolding with_figures complete_number
  complete_back =
      figure_back 3 (complete_number complete) three (omega (arith, length_three)) (omega (arith, bit_le_one complete))
