-- Sums compared by payment: what each number of one sum costs is paid by numbers of the other.
-- Assumes nothing.
use mathlib.Core.Bool.{Bool, true, false}
use mathlib.Core.Path.{◌≡◌, refl, sym, ◌∙◌, ap}
use mathlib.Core.Logic.{⊎_elim}
use Prim.Native.Nat.{ℕ, ◌+◌, ◌≤◌, ◌<◌}
use native.Mathlib.Nat.{eq-zero-or-pos}
use native.Mathlib.Omega.{arith}
use lib.Dec.{eqb}
use borrow.Author.Tests.{eqb-true, eq-eqb}
use Rattle.counting.specs.Tests.{◌and◌, bit}
use Rattle.counting.specs.Sums.{sum, count}
use Rattle.counting.proofs.Joined.{by_test, clash, and_intro, and_left, and_right, bit-true, bit-false, bit_le_one, bit_mono}
use Rattle.counting.proofs.Summed.{sum_le, sum_swap, sum_add}
use Rattle.counting.proofs.Counted.{count-one, count-some, witness}

-- each f t is paid, and no l pays more than g l
pub charge :
    (pay : ℕ → ℕ → ℕ) (f g : ℕ → ℕ) (a b : ℕ) →
    ((t : ℕ) → t < a → f t ≤ sum (λ l. pay t l) b) →
    ((l : ℕ) → l < b → sum (λ t. pay t l) a ≤ g l) → sum f a ≤ sum g b
charge pay f g a b paid most =
    omega (
      arith,
      sum_le f (λ t. sum (λ l. pay t l) b) a paid,
      sum_swap pay a b,
      sum_le (λ l. sum (λ t. pay t l) a) g b most,
    )

-- numbers that pass p are taken, each to another, to numbers that pass q
pub record Injects (p q : ℕ → Bool) (a b : ℕ) (h : ℕ → ℕ) : Type 0 where
  pub lands : (t : ℕ) → t < a → p t ≡ true → h t < b
  pub hits : (t : ℕ) → t < a → p t ≡ true → q (h t) ≡ true
  pub apart : (s t : ℕ) → s < a → t < a → p s ≡ true → p t ≡ true → h s ≡ h t → s ≡ t

pub count_inj : (p q : ℕ → Bool) (a b : ℕ) (h : ℕ → ℕ) → Injects p q a b h → count p a ≤ count q b
count_inj p q a b h j =
    charge (λ t l. bit (p t and eqb l (h t))) (λ t. bit (p t)) (λ l. bit (q l)) a b paid most
  where
    paid : (t : ℕ) → t < a → bit (p t) ≤ count (λ l. p t and eqb l (h t)) b
    paid t c =
        by_test
        (p t)
        (λ e. omega (
          arith,
          bit_le_one (p t),
          count-some (λ l. p t and eqb l (h t)) b (h t) (j.lands t c e) (and_intro e (eq-eqb (h t) (h t) refl)),
        ))
        (λ e. omega (arith, bit-false (p t) e))

    one : (l : ℕ) → count (λ t. p t and eqb l (h t)) a ≤ 1
    one l =
        count-one
        (λ t. p t and eqb l (h t))
        a
        (λ s t c d u v. j.apart
        s
        t
        c
        d
        (and_left (p s) (eqb l (h s)) u)
        (and_left (p t) (eqb l (h t)) v)
        (sym (eqb-true l (h s) (and_right (p s) (eqb l (h s)) u)) ∙ eqb-true l (h t) (and_right (p t) (eqb l (h t)) v)))

    met : (l : ℕ) → 1 ≤ count (λ t. p t and eqb l (h t)) a → q l ≡ true
    met l some =
        let w = witness (λ t. p t and eqb l (h t)) a some in
        let e = and_left (p w.0) (eqb l (h w.0)) w.2 in
        ap q (eqb-true l (h w.0) (and_right (p w.0) (eqb l (h w.0)) w.2)) ∙ j.hits w.0 w.1 e

    most : (l : ℕ) → l < b → count (λ t. p t and eqb l (h t)) a ≤ bit (q l)
    most l c =
        by_test
        (q l)
        (λ e. omega (arith, bit-true (q l) e, one l))
        (λ e. ⊎_elim
        (λ z. omega (arith, z))
        (λ some. clash (met l some) e)
        (eq-zero-or-pos (count (λ t. p t and eqb l (h t)) a)))

-- three tests of which no two pass, each of which implies d
pub record Apart (p q r d : ℕ → Bool) (n : ℕ) : Type 0 where
  pub p_d : (l : ℕ) → l < n → p l ≡ true → d l ≡ true
  pub q_d : (l : ℕ) → l < n → q l ≡ true → d l ≡ true
  pub r_d : (l : ℕ) → l < n → r l ≡ true → d l ≡ true
  pub p_q : (l : ℕ) → l < n → p l ≡ true → q l ≡ false
  pub p_r : (l : ℕ) → l < n → p l ≡ true → r l ≡ false
  pub q_r : (l : ℕ) → l < n → q l ≡ true → r l ≡ false

pub three : (p q r d : ℕ → Bool) (n : ℕ) → Apart p q r d n → count p n + count q n + count r n ≤ count d n
three p q r d n j =
    omega (
      arith,
      sum_add (λ l. bit (p l)) (λ l. bit (q l)) n,
      sum_add (λ l. bit (p l) + bit (q l)) (λ l. bit (r l)) n,
      sum_le (λ l. bit (p l) + bit (q l) + bit (r l)) (λ l. bit (d l)) n each,
    )
  where
    each : (l : ℕ) → l < n → bit (p l) + bit (q l) + bit (r l) ≤ bit (d l)
    each l b =
        by_test
        (p l)
        (λ e. omega (
          arith,
          bit_le_one (p l),
          bit-true (d l) (j.p_d l b e),
          bit-false (q l) (j.p_q l b e),
          bit-false (r l) (j.p_r l b e),
        ))
        (λ f. by_test
        (q l)
        (λ e. omega (
          arith,
          bit_le_one (q l),
          bit-false (p l) f,
          bit-true (d l) (j.q_d l b e),
          bit-false (r l) (j.q_r l b e),
        ))
        (λ g. omega (arith, bit-false (p l) f, bit-false (q l) g, bit_mono (r l) (d l) (j.r_d l b))))
