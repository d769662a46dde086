-- The strike-out with lines of one weight struck at once: all of them where that is not enough, else as many as a quotient says.
-- Assumes nothing.
use mathlib.Core.List.{List, [], ◌∷◌, ◌++◌}
use mathlib.Core.Path.{◌≡◌, refl, sym, ◌∙◌, ap}
use Prim.Native.Nat.{ℕ, zero, suc, ◌+◌, ◌-◌, ◌*◌, ◌/◌, ◌≤◌, ◌<◌}
use native.Mathlib.Nat.{suc-mul, div-eq_of_lt, div-eq-sub-div}
use native.Mathlib.Omega.{arith}
use borrow.Author.Tests.{leb-true, leb-false}
use lib.Dec.{leb}
use lib.ListN.{replicate}
use Rattle.counting.proofs.Joined.{no_way, by_test}
use Rattle.model.specs.Bound.{falling, strikes}
use Rattle.judging.proofs.Strikes.{falling_below, strikes-stop, strikes-first, down_start}

-- only what s is above the room matters
strikes_over : (xs : List ℕ) (s room : ℕ) → strikes xs s room ≡ strikes xs (s - room) 0
unfolding strikes
strikes_over [] s room = refl
strikes_over (x ∷ xs) s room =
    by_test
    (leb s room)
    (λ e. let b : s ≤ room = leb-true s room e in
    strikes-stop (x ∷ xs) s room b ∙ sym (strikes-stop (x ∷ xs) (s - room) 0 (omega arith)))
    (λ e. let b : room < s = leb-false s room e in
    let d : s - x - room ≡ s - room - x = omega arith in
    strikes-first x xs s room b
    ∙ ap suc (strikes_over xs (s - x) room ∙ ap (λ (z : ℕ). strikes xs z 0) d)
    ∙ sym (strikes-first x xs (s - room) 0 (omega arith)))

-- lines of one weight that are not enough: all are struck
weight_all :
    (c x over : ℕ) (ys : List ℕ) → c * x < over →
    strikes (replicate c x ++ ys) over 0 ≡ c + strikes ys (over - c * x) 0
weight_all zero x over ys h =
    let e : over ≡ over - 0 * x = omega arith in
    omega (arith, ap (λ (z : ℕ). strikes ys z 0) e)
weight_all (suc c) x over ys h =
    let m = suc-mul c x in
    let e : over - x - c * x ≡ over - suc c * x = omega arith in
    omega (
      arith,
      strikes-first x (replicate c x ++ ys) over 0 (omega arith),
      weight_all c x (over - x) ys (omega arith),
      ap (λ (z : ℕ). strikes ys z 0) e,
    )

-- one line less to strike is one less in the quotient
quotient_less : (x over : ℕ) → 0 < x → 0 < over → (over + x - 1) / x ≡ (over - x + x - 1) / x + 1
quotient_less x over p q =
    let e : over + x - 1 - x ≡ over - 1 = omega arith in
    div-eq-sub-div p (omega arith)
    ∙ ap (λ (z : ℕ). z / x + 1) e
    ∙ by_test
    (leb x over)
    (λ h. let b : over - 1 ≡ over - x + x - 1 = omega (arith, leb-true x over h) in ap (λ (z : ℕ). z / x + 1) b)
    (λ h. omega (
      arith,
      div-eq_of_lt {n = over - 1} {m = x} (omega (arith, leb-false x over h)),
      div-eq_of_lt {n = over - x + x - 1} {m = x} (omega (arith, leb-false x over h)),
    ))

-- lines of one weight that are enough: so many are struck as reach
weight_some :
    (c x over : ℕ) (ys : List ℕ) → 0 < x → over ≤ c * x →
    strikes (replicate c x ++ ys) over 0 ≡ (over + x - 1) / x
weight_some zero x over ys p h =
    omega (
      arith,
      strikes-stop ys over 0 (omega arith),
      div-eq_of_lt {n = over + x - 1} {m = x} (omega arith),
    )
weight_some (suc c) x over ys p h =
    let m = suc-mul c x in
    by_test
    (leb over 0)
    (λ e. let b : over ≤ 0 = leb-true over 0 e in
    omega (
      arith,
      strikes-stop (x ∷ replicate c x ++ ys) over 0 b,
      div-eq_of_lt {n = over + x - 1} {m = x} (omega arith),
    ))
    (λ e. let b : 0 < over = leb-false over 0 e in
    omega (
      arith,
      strikes-first x (replicate c x ++ ys) over 0 b,
      weight_some c x (over - x) ys p (omega arith),
      quotient_less x over p b,
    ))

-- from a weight down, by what is above the room: the start
pub strike_start :
    (h : ℕ → ℕ) (top s room : ℕ) → strikes (falling_below h (top + 1)) (s - room) 0 ≡ strikes (falling h top) s room
strike_start h top s room = sym (down_start h top s room ∙ strikes_over (falling_below h (top + 1)) s room)

-- a weight whose lines are enough is not 0
pub some_weight : (lines x over : ℕ) → 0 < over → over ≤ lines * x → 0 < x
some_weight lines zero over p b = no_way (omega arith)
some_weight lines (suc x) over p b = omega arith

-- the weights below k, the last of them set apart
below_first :
    (h : ℕ → ℕ) (k lines over : ℕ) → 0 < k → lines ≡ h (k - 1) →
    strikes (falling_below h k) over 0 ≡ strikes (replicate lines (k - 1) ++ falling_below h (k - 1)) over 0
unfolding falling_below
below_first h k lines over p e =
    let a : k ≡ suc (k - 1) = omega arith in
    ap (λ (j : ℕ). strikes (falling_below h j) over 0) a
    ∙ ap (λ (j : ℕ). strikes (replicate j (k - 1) ++ falling_below h (k - 1)) over 0) (sym e)

-- the lines of a weight are not enough: the strike goes on with the weights below it
pub strike_on :
    (h : ℕ → ℕ) (k lines over struck total : ℕ) → 0 < k → lines ≡ h (k - 1) → lines * (k - 1) < over →
    struck + strikes (falling_below h k) over 0 ≡ total →
    struck + lines + strikes (falling_below h (k - 1)) (over - lines * (k - 1)) 0 ≡ total
strike_on h k lines over struck total p e b q =
    omega (arith, below_first h k lines over p e, weight_all lines (k - 1) over (falling_below h (k - 1)) b)

-- they are enough: the strike ends
pub strike_ends :
    (h : ℕ → ℕ) (k lines over struck total : ℕ) → 0 < k → lines ≡ h (k - 1) → 0 < over → over ≤ lines * (k - 1) →
    struck + strikes (falling_below h k) over 0 ≡ total → struck + (over + (k - 1) - 1) / (k - 1) ≡ total
strike_ends h k lines over struck total p e a b q =
    omega (
      arith,
      below_first h k lines over p e,
      weight_some lines (k - 1) over (falling_below h (k - 1)) (some_weight lines (k - 1) over a b) b,
    )

-- no weight is left
pub strike_none : (h : ℕ → ℕ) (k over : ℕ) → k ≤ 0 → strikes (falling_below h k) over 0 ≡ 0
unfolding falling_below strikes
strike_none h k over b =
    let e : k ≡ 0 = omega arith in
    ap (λ (j : ℕ). strikes (falling_below h j) over 0) e
