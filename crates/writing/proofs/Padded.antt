-- Laws of a number's decimal digits from the highest on, as powers of ten are taken away.
-- Assumes nothing.
use mathlib.Core.List.{List, [], ◌∷◌, ◌++◌}
use mathlib.Core.Path.{◌≡◌, refl, sym, ◌∙◌, ap}
use Prim.Native.Nat.{ℕ, zero, suc, ◌+◌, ◌-◌, ◌*◌, ◌/◌, ◌%◌, ◌^◌, ◌≤◌, ◌<◌}
use native.Mathlib.Nat.{mul_assoc, mod-lt, div-add-mod', div-lt_iff_lt-mul, one-le-pow, pow-suc, pow-zero}
use native.Mathlib.Omega.{arith}
use lib.ListN.{length}
use Rattle.counting.proofs.Joined.{no_way}
use Rattle.writing.specs.Written.{decimals}
use Rattle.writing.proofs.Decimals.{decimals-zero, decimals_either, digit_after}

-- so many last digits, leading zeros with them
unfoldable pub padded : ℕ → ℕ → List ℕ
padded zero n = []
padded (suc k) n = padded k (n / 10) ++ ((48 + n % 10) ∷ [])

pub length-padded : (k n : ℕ) → length (padded k n) ≡ k
unfolding padded
length-padded zero n = refl
length-padded (suc k) n = digit_after (padded k (n / 10)) (48 + n % 10) ∙ ap suc (length-padded k (n / 10))

-- a number's digits are so many
pub decimals-padded : (k n : ℕ) → decimals k n ≡ padded (length (decimals k n)) n
unfolding padded
decimals-padded zero n = rw decimals-zero
decimals-padded (suc k) n =
    decimals_either
    (λ x. x ≡ padded (length x) n)
    k
    n
    (λ l. refl)
    (λ l. ap (λ x. x ++ ((48 + n % 10) ∷ [])) (decimals-padded k (n / 10))
    ∙ sym (ap (λ x. padded x n) (digit_after (decimals k (n / 10)) (48 + n % 10))))

-- a digit times a power of ten, and what is below the power
padded_with :
    (k d r : ℕ) → d < 10 → r < 10 ^ k → padded (suc k) (d * 10 ^ k + r) ≡ (48 + d) ∷ padded k r
unfolding padded
padded_with zero d r a b =
    let one = pow-zero 10 in
    let digit : 48 + (d * 10 ^ 0 + r) % 10 ≡ 48 + d = omega arith in
    ap (λ x. x ∷ []) digit
padded_with (suc k) d r a b =
    let tens : d * 10 ^ suc k ≡ d * 10 ^ k * 10 = ap (λ x. d * x) (pow-suc 10 k) ∙ sym (mul_assoc d (10 ^ k) 10) in
    let front : (d * 10 ^ suc k + r) / 10 ≡ d * 10 ^ k + r / 10 = omega arith in
    let last : (d * 10 ^ suc k + r) % 10 ≡ r % 10 = omega arith in
    rw (front, last) (ap (λ x. x ++ ((48 + r % 10) ∷ [])) (padded_with k d (r / 10) a (omega (arith, pow-suc 10 k))))

-- the highest digit is the quotient by its power of ten, and the others are those of the remainder
padded-first : (k n : ℕ) → n < 10 ^ suc k → padded (suc k) n ≡ (48 + n / 10 ^ k) ∷ padded k (n % 10 ^ k)
padded-first k n l =
    let power : 0 < 10 ^ k = one-le-pow k 10 (omega arith) in
    ap (padded (suc k)) (sym (div-add-mod' n (10 ^ k)))
    ∙ padded_with k (n / 10 ^ k) (n % 10 ^ k) ((div-lt_iff_lt-mul power).1 (omega (arith, pow-suc 10 k))) (mod-lt n power)

-- so many digits, of which the highest is taken
module _ (k n power : ℕ) (some : 1 ≤ k) (below : n < 10 ^ k) (p : power ≡ 10 ^ (k - 1)) where
  itself : suc (k - 1) ≡ k
  itself = omega arith

  within : n < 10 ^ suc (k - 1)
  within = rw itself below

  pub first-within : n < 10 * power
  first-within = omega (arith, within, pow-suc 10 (k - 1), p)

  pub first_below : {left : ℕ} → left ≡ n % power → left < 10 ^ (k - 1)
  first_below e = rw (e, ← p) (mod-lt n (omega (arith, first-within)))

  pub first_taken : {byte left : ℕ} → byte ≡ 48 + n / power → left ≡ n % power → padded k n ≡ byte ∷ padded (k - 1) left
  first_taken e f = rw (e, f, p) (ap (λ x. padded x n) (sym itself) ∙ padded-first (k - 1) n within)

-- none left
pub padded-none : (k n : ℕ) → k ≤ 0 → [] ≡ padded k n
unfolding padded
padded-none zero n l = refl
padded-none (suc k) n l = no_way (omega arith)
