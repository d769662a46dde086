-- Laws of counts, and of the test that some number passes.
-- Assumes nothing.
use mathlib.Core.Bool.{Bool, true, false, not}
use mathlib.Core.Path.{◌≡◌, refl, sym, ◌∙◌, ap}
use mathlib.Core.Logic.{⊎_elim}
use Prim.Native.Nat.{ℕ, zero, suc, ◌+◌, ◌≤◌, ◌<◌}
use native.Mathlib.Nat.{eq-or-lt_of_le, le_of_suc-le-suc}
use native.Mathlib.Omega.{arith}
use native.Mathlib.Numerals.{add-one}
use lib.Dec.{ltb}
use borrow.Author.Tests.{ltb-true, ltb-false, lt-ltb, le-ltb}
use Rattle.counting.specs.Tests.{◌and◌, ◌or◌, bit}
use Rattle.counting.specs.Sums.{sum, count, any}
use Rattle.counting.proofs.Joined.{no_way, by_test, clash, fails, or_left, or_right, or_fails, bit-true, bit-false, bit_le_one, bit_mono, bit_parts}
use Rattle.counting.proofs.Summed.{sum-suc, sum_le, sum_eq, sum_add, sum-zero, sum_term}

-- one test implies the other
pub count_mono : (p q : ℕ → Bool) (n : ℕ) → ((t : ℕ) → t < n → p t ≡ true → q t ≡ true) → count p n ≤ count q n
count_mono p q n h = sum_le (λ t. bit (p t)) (λ t. bit (q t)) n (λ t b. bit_mono (p t) (q t) (h t b))

pub count_eq : (p q : ℕ → Bool) (n : ℕ) → ((t : ℕ) → t < n → p t ≡ q t) → count p n ≡ count q n
count_eq p q n h = sum_eq (λ t. bit (p t)) (λ t. bit (q t)) n (λ t b. ap bit (h t b))

pub count_none : (p : ℕ → Bool) (n : ℕ) → ((t : ℕ) → t < n → p t ≡ false) → count p n ≡ 0
count_none p n h = sum-zero (λ t. bit (p t)) n (λ t b. bit-false (p t) (h t b))

pub count-some : (p : ℕ → Bool) (n t : ℕ) → t < n → p t ≡ true → 1 ≤ count p n
count-some p n t b h = omega (arith, sum_term (λ s. bit (p s)) n t b, bit-true (p t) h)

pub count_most : (p : ℕ → Bool) (n : ℕ) → count p n ≤ n
unfolding sum
count_most p zero = omega arith
count_most p (suc n) = omega (arith, count_most p n, bit_le_one (p n))

-- every number passes
pub count_all : (p : ℕ → Bool) (n : ℕ) → ((t : ℕ) → t < n → p t ≡ true) → count p n ≡ n
unfolding sum
count_all p zero h = refl
count_all p (suc n) h = omega (arith, count_all p n (λ t b. h t (omega arith)), bit-true (p n) (h n (omega arith)))

-- one test implies the other, and a number passes the other alone
pub count_less :
    (p q : ℕ → Bool) (n t : ℕ) →
    ((s : ℕ) → s < n → p s ≡ true → q s ≡ true) →
    t < n → p t ≡ false → q t ≡ true → count p n + 1 ≤ count q n
unfolding sum
count_less p q zero t h b u v = no_way (omega arith)
count_less p q (suc n) t h b u v =
    ⊎_elim
    (λ e. omega (
      arith,
      count_mono p q n (λ s l. h s (omega arith)),
      bit-false (p n) (ap p (sym e) ∙ u),
      bit-true (q n) (ap q (sym e) ∙ v),
    ))
    (λ l. omega (
      arith,
      count_less p q n t (λ s c. h s (omega arith)) l u v,
      bit_mono (p n) (q n) (h n (omega arith)),
    ))
    (eq-or-lt_of_le (le_of_suc-le-suc b))

-- those that pass a second test, and those that fail it
pub count-split :
    (p q : ℕ → Bool) (n : ℕ) → count p n ≡ count (λ t. p t and q t) n + count (λ t. p t and not (q t)) n
count-split p q n =
    sum_eq (λ t. bit (p t)) (λ t. bit (p t and q t) + bit (p t and not (q t))) n (λ t b. sym (bit_parts (p t) (q t)))
    ∙ sum_add (λ t. bit (p t and q t)) (λ t. bit (p t and not (q t))) n

-- no two numbers pass
pub count-one :
    (p : ℕ → Bool) (n : ℕ) →
    ((s t : ℕ) → s < n → t < n → p s ≡ true → p t ≡ true → s ≡ t) → count p n ≤ 1
unfolding sum
count-one p zero h = omega arith
count-one p (suc n) h =
    by_test
    (p n)
    (λ last. omega (
      arith,
      bit_le_one (p n),
      count_none p n (λ s b. fails (p s) (λ e. no_way (omega (arith, h s n (omega arith) (omega arith) e last)))),
    ))
    (λ other. omega (
      arith,
      bit-false (p n) other,
      count-one p n (λ s t b c. h s t (omega arith) (omega arith)),
    ))

pub any_intro : (p : ℕ → Bool) (n t : ℕ) → t < n → p t ≡ true → any p n ≡ true
unfolding any
any_intro p n t b h = lt-ltb 0 (count p n) (count-some p n t b h)

-- the greatest number below n that passes, where the count is not 0
pub witness : (p : ℕ → Bool) (n : ℕ) → 1 ≤ count p n → (t : ℕ) × (t < n) × (p t ≡ true)
unfolding sum
witness p zero h = no_way h
witness p (suc n) h =
    by_test
    (p n)
    (λ last. (n, omega arith, last))
    (λ other. let w = witness p n (omega (arith, bit-false (p n) other)) in (w.0, omega arith, w.2))

pub any_elim : (p : ℕ → Bool) (n : ℕ) → any p n ≡ true → (t : ℕ) × (t < n) × (p t ≡ true)
unfolding any
any_elim p n h = witness p n (ltb-true 0 (count p n) h)

-- two tests that agree below a bound
pub any_eq : (p q : ℕ → Bool) (n : ℕ) → ((t : ℕ) → t < n → p t ≡ q t) → any p n ≡ any q n
unfolding any
any_eq p q n h = ap (ltb 0) (count_eq p q n h)

pub any_fails : (p : ℕ → Bool) (n t : ℕ) → any p n ≡ false → t < n → p t ≡ false
any_fails p n t h b = fails (p t) (λ e. clash (any_intro p n t b e) h)

pub any_none : (p : ℕ → Bool) (n : ℕ) → ((t : ℕ) → t < n → p t ≡ false) → any p n ≡ false
any_none p n h = fails (any p n) (λ e. let w = any_elim p n e in clash w.2 (h w.0 w.1))

-- one number more, as loops go
pub count-more : (p : ℕ → Bool) (t : ℕ) → count p (t + 1) ≡ count p t + bit (p t)
count-more p t = ap (count p) (add-one t) ∙ sum-suc (λ s. bit (p s)) t

-- some number passes among one more just where some passed before or the last passes
pub any-more : (p : ℕ → Bool) (t : ℕ) → any p (t + 1) ≡ any p t or p t
unfolding any
any-more p t = or_positive (count p t) (count p (t + 1)) (p t) (count-more p t)
  where
    or_positive : (k j : ℕ) (b : Bool) → j ≡ k + bit b → ltb 0 j ≡ ltb 0 k or b
    or_positive k j b e =
        by_test
        (ltb 0 k)
        (λ h. lt-ltb 0 j (omega (arith, ltb-true 0 k h)) ∙ sym (or_left b h))
        (λ h. by_test
        b
        (λ y. lt-ltb 0 j (omega (arith, bit-true b y)) ∙ sym (or_right (ltb 0 k) y))
        (λ n. le-ltb 0 j (omega (arith, bit-false b n, ltb-false 0 k h)) ∙ sym (or_fails h n)))
