-- The cap from a percentage and its rest: they are the one pair with (100 + e) × ceiling(N / 2) = 100 × cap + rest and rest under 100. The
-- cap is at least ceiling(N / 2) and at most cap_limit, so an opening with it for both parts is refused for its list alone, never with 11 or 12.
-- Assumes nothing.
use Rattle.std.specs.Prelude.{Ok, Err}
use mathlib.Core.List.{List}
use mathlib.Core.Path.{◌≡◌, refl, sym, ◌∙◌, ap}
use Prim.Native.Nat.{ℕ, ◌+◌, ◌*◌, ◌≤◌, ◌<◌, ◌/◌}
use native.Mathlib.Nat.{mul-le-mul}
use native.Mathlib.Omega.{arith}
use lib.Dec.{ltb}
use borrow.Author.Tests.{ltb-false, lt-ltb, le-ltb}
use Rattle.counting.proofs.Joined.{never, or_fails}
use Rattle.model.specs.declared.Word.{Word}
use Rattle.model.specs.declared.Word.TheVariants.{TooBig, Cap, NoSplit}
use Rattle.model.specs.declared.Capped.{Capped}
use Rattle.model.specs.Limits.{nonzero_limit, cap_limit, percent_limit}
use Rattle.model.specs.Refusal.{◌then◌, Verdict, accepted, refused, refusal_number, refuse}
use Rattle.model.specs.Split.{both_caps, caps_outside, ceiling_half, cap_hundredths, cap_from_percent, rest_from_percent, CutOff}
use Rattle.model.specs.Calls.{list_verdict, open_verdict, cap_verdict, capped, cap_call, open_call}
use Rattle.model.proofs.Theorems.Checks.{refuse_so, refuse_no, refuse-not, then_accepted, then_refused, then-first, then-second, then-rest, refused_by}
use Rattle.model.proofs.Theorems.Spared.{cap_words, list_spares}

-- the least number whose double is x or more
pub ceiling_half_lem : (x : ℕ) → (x ≤ 2 * ceiling_half x) × (2 * ceiling_half x ≤ x + 1)
unfolding ceiling_half
ceiling_half_lem x = (omega arith, omega arith)

-- a cap from a percentage and its rest are the quotient and the remainder that the request asks for, and no others are
pub cut_off : (nonzeros percent : ℕ) → CutOff nonzeros percent (cap_from_percent nonzeros percent) (rest_from_percent nonzeros percent)
unfolding cap_from_percent rest_from_percent cap_hundredths
cut_off nonzeros percent = record { whole = omega arith; rest_below = omega arith }

pub cut_off_once :
    {nonzeros percent cap rest : ℕ} → CutOff nonzeros percent cap rest →
    (cap ≡ cap_from_percent nonzeros percent) × (rest ≡ rest_from_percent nonzeros percent)
unfolding cap_from_percent rest_from_percent cap_hundredths
cut_off_once c = (omega (arith, c.whole, c.rest_below), omega (arith, c.whole, c.rest_below))

-- a cap from a percentage is at least ceiling(N / 2)
pub cap_from : (nonzeros percent : ℕ) → ceiling_half nonzeros ≤ cap_from_percent nonzeros percent
cap_from nonzeros percent =
    let whole : 100 ≤ 100 + percent = omega arith in
    let same : ceiling_half nonzeros ≤ ceiling_half nonzeros = omega arith in
    let cut = cut_off nonzeros percent in
    omega (arith, mul-le-mul whole same, cut.whole, cut.rest_below)

-- so some split meets it in both parts
pub cap_enough : (nonzeros percent : ℕ) → nonzeros ≤ cap_from_percent nonzeros percent + cap_from_percent nonzeros percent
cap_enough nonzeros percent = omega (arith, cap_from nonzeros percent, (ceiling_half_lem nonzeros).0)

-- for N and e in range it is in its own range: nonzero_limit is even, and at most cap_limit
pub cap_to : (nonzeros percent : ℕ) → nonzeros ≤ nonzero_limit → percent ≤ percent_limit → cap_from_percent nonzeros percent ≤ cap_limit
cap_to nonzeros percent few low =
    let most : 100 + percent ≤ 100 + percent_limit = omega arith in
    let half : ceiling_half nonzeros ≤ nonzero_limit / 2 = omega (arith, (ceiling_half_lem nonzeros).1) in
    omega (arith, mul-le-mul most half, (cut_off nonzeros percent).whole)

-- so an opening with it for both parts makes no other checks than those of its list
pub percent_opens :
    (m n nonzeros : ℕ) (list : List ℕ) (percent : ℕ) → nonzeros ≤ nonzero_limit → percent ≤ percent_limit →
    open_verdict m n nonzeros list (both_caps (cap_from_percent nonzeros percent)) ≡ list_verdict m n nonzeros list
unfolding open_verdict caps_outside
percent_opens m n nonzeros list percent few low =
    let small = le-ltb cap_limit (cap_from_percent nonzeros percent) (cap_to nonzeros percent few low) in
    then-rest _ (refuse_no NoSplit 0 (le-ltb _ nonzeros (cap_enough nonzeros percent)))
    ∙ then-rest _ (refuse_no Cap 0 (or_fails small small))

-- what is answered: 4 for N above its range
pub cap_too_big : (nonzeros percent : ℕ) → nonzero_limit < nonzeros → cap_call nonzeros percent ≡ refused TooBig 0
unfolding cap_call cap_verdict
cap_too_big nonzeros percent many = rw (then_refused _ (refuse_so TooBig 0 (lt-ltb nonzero_limit nonzeros many)))

-- for N in range the cap and the rest, or 11 for e above its range
module _ (nonzeros percent : ℕ) (few : nonzeros ≤ nonzero_limit) where
  percent_decides : cap_verdict nonzeros percent ≡ refuse (ltb percent_limit percent) Cap 0
  unfolding cap_verdict
  percent_decides = then_accepted _ (refuse_no TooBig 0 (le-ltb nonzero_limit nonzeros few))

  pub cap_given : percent ≤ percent_limit → cap_call nonzeros percent ≡ capped (cap_from_percent nonzeros percent) (rest_from_percent nonzeros percent)
  unfolding cap_call
  cap_given low = rw (percent_decides, refuse_no Cap 0 (le-ltb percent_limit percent low))

  pub cap_refused : percent_limit < percent → cap_call nonzeros percent ≡ refused Cap 0
  unfolding cap_call
  cap_refused high = rw (percent_decides, refuse_so Cap 0 (lt-ltb percent_limit percent high))

-- N and e in range, and a cap and rest of them
pub record CapFine (nonzeros percent cap rest : ℕ) : Type 0 where
  pub size_to : nonzeros ≤ nonzero_limit
  pub percent_to : percent ≤ percent_limit
  pub cut : CutOff nonzeros percent cap rest

capped_verdict :
    (v : Verdict) (nonzeros percent cap rest : ℕ) → (v then capped (cap_from_percent nonzeros percent) (rest_from_percent nonzeros percent)) ≡ capped cap rest →
    (v ≡ accepted) × (cap ≡ cap_from_percent nonzeros percent) × (rest ≡ rest_from_percent nonzeros percent)
capped_verdict (Ok _) nonzeros percent cap rest e =
    let same : ◌≡◌ {A = Capped} (record { cap = cap_from_percent nonzeros percent; rest = rest_from_percent nonzeros percent }) (record { cap = cap; rest = rest }) = cc in
    (refl, sym (ap (λ (c : Capped). c.cap) same), sym (ap (λ (c : Capped). c.rest) same))
capped_verdict (Err refusal) nonzeros percent cap rest e = never (cc)

module _ (nonzeros percent cap rest : ℕ) where
  -- a cap and a rest are answered exactly where they are those of N and e in range
  pub cap_answers : CapFine nonzeros percent cap rest → cap_call nonzeros percent ≡ capped cap rest
  cap_answers fine =
      let only = cut_off_once fine.cut in
      cap_given nonzeros percent fine.size_to fine.percent_to ∙ rw (sym only.0, sym only.1) refl

  module _ (e : cap_call nonzeros percent ≡ capped cap rest) where
    pub cap_accepted : CapFine nonzeros percent cap rest
    unfolding cap_call cap_verdict
    cap_accepted =
        let capped = capped_verdict _ nonzeros percent cap rest e in
        record {
          size_to = ltb-false nonzero_limit nonzeros (refuse-not _ TooBig 0 (then-first _ _ capped.0));
          percent_to = ltb-false percent_limit percent (refuse-not _ Cap 0 (then-second _ _ capped.0));
          cut = rw (capped.1, capped.2) (cut_off nonzeros percent);
        }

    -- an opening with a cap that was answered
    pub capped-opens : (m n : ℕ) (list : List ℕ) → open_verdict m n nonzeros list (both_caps cap) ≡ list_verdict m n nonzeros list
    capped-opens m n list =
        ap (λ (x : ℕ). open_verdict m n nonzeros list (both_caps x)) (cut_off_once cap_accepted.cut).0
        ∙ percent_opens m n nonzeros list percent cap_accepted.size_to cap_accepted.percent_to

-- a search opened with a cap from a percentage is never refused 11 or 12
pub capped_never :
    (m n nonzeros : ℕ) (list : List ℕ) (percent cap rest : ℕ) (word : Word) (place : ℕ) →
    cap_call nonzeros percent ≡ capped cap rest → open_call m n nonzeros list (both_caps cap) ≡ refused word place →
    (refusal_number word ≡ 11 → ⊥) × (refusal_number word ≡ 12 → ⊥)
unfolding open_call
capped_never m n nonzeros list percent cap rest word place e refused =
    cap_words
    (refusal_number word)
    ((list_spares m n nonzeros list).spared word place (sym (capped-opens nonzeros percent cap rest e m n list) ∙ refused_by _ _ refused))
