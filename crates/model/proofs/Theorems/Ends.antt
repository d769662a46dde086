-- The walk of a pattern ends, makes few looks, goes on from where it stopped, and reaches only states that are not refused.
-- Assumes nothing.
use mathlib.Core.Bool.{true, false}
use mathlib.Core.Path.{◌≡◌}
use Prim.Native.Nat.{ℕ, ◌+◌, ◌-◌, ◌/◌, ◌*◌, ◌^◌, ◌≤◌, ◌<◌}
use native.Mathlib.Nat.{mul_assoc}
use native.Mathlib.Omega.{arith}
use Rattle.model.specs.declared.Caps.{Caps}
use Rattle.model.specs.Limits.{line_limit, nonzero_limit, tries_limit}
use Rattle.model.specs.Pattern.{Pattern, Inside, line_total}
use Rattle.model.specs.Split.{caps_outside}
use Rattle.model.specs.Marking.{Marking, marking}
use Rattle.model.specs.Bound.{bound}
use Rattle.model.specs.Walk.{rules_of, fresh_of, walk, walked}
use Rattle.model.specs.State.{state_fine}
use Rattle.model.proofs.Walk.Steps.{walk_adds, complete_stays}
use Rattle.model.proofs.Walk.Ending.{tries_bound, tries_within, tries_all, ends}
use Rattle.model.proofs.Matching.Looks.{looks_most}
use Rattle.model.proofs.Walk.Looked.{LooksMost, reached-looked, looks_fit, lookless, looks_steer_nothing}
use Rattle.model.proofs.Walk.Reached.{reached_fine}
use Rattle.model.proofs.Order.RulesSound.{rules_by, rules_sound}
use Rattle.model.proofs.Theorems.Least.{walked_by}

-- the most tries that a search of k lines can make
unfoldable pub most_tries : ℕ → ℕ
most_tries k = (3 ^ (k + 1) - 3) / 2

-- tries never exceed (3^(k+1) − 3) / 2
pub walked_tries : (P : Pattern) (caps : Caps) (tries : ℕ) → (walked P caps tries).tries ≤ most_tries (line_total P)
unfolding walked rules_of fresh_of most_tries
walked_tries P caps tries = tries_bound (rules_of P caps) P.m P.n P.size caps tries

-- and the walk is complete by then
pub walked_ends : (P : Pattern) (caps : Caps) → (walked P caps (most_tries (line_total P))).complete ≡ true
unfolding walked rules_of fresh_of most_tries
walked_ends P caps = ends (rules_of P caps) P.m P.n P.size caps

-- it makes exactly the tries that it is given, or fewer only because it became complete
pub walked-given : (P : Pattern) (caps : Caps) (tries : ℕ) → (walked P caps tries).complete ≡ false → (walked P caps tries).tries ≡ tries
unfolding walked rules_of fresh_of
walked-given P caps tries = tries_all (rules_of P caps) P.m P.n P.size caps tries

pub walked_most : (P : Pattern) (caps : Caps) (tries : ℕ) → (walked P caps tries).tries ≤ tries
unfolding walked rules_of fresh_of
walked_most P caps tries = tries_within (rules_of P caps) P.m P.n P.size caps tries

-- no trail has more than m × N looks
pub rules-looks : (P : Pattern) (caps : Caps) → Inside P → LooksMost (rules_of P caps) (P.m * P.size)
unfolding rules_of
rules-looks P caps i τ = looks_most P (marking P τ) i

-- looks never exceed tries × m × N
pub walked-looks :
    (P : Pattern) (caps : Caps) (tries : ℕ) → Inside P →
    (walked P caps tries).looks ≤ (walked P caps tries).tries * P.m * P.size
unfolding walked rules_of fresh_of
walked-looks P caps tries i =
    omega (
      arith,
      (reached-looked (rules_of P caps) (rules-looks P caps i) P.m P.n P.size caps tries).few,
      mul_assoc (walked P caps tries).tries P.m P.size,
    )

-- so within the limits they fit eight bytes
pub walked-looks_fit :
    (P : Pattern) (caps : Caps) (tries : ℕ) → Inside P → P.m ≤ line_limit → P.size ≤ nonzero_limit →
    (walked P caps tries).tries ≤ tries_limit → (walked P caps tries).looks < 2 ^ 64
walked-looks_fit P caps tries i rows small few =
    looks_fit (walked P caps tries).looks (walked P caps tries).tries P.m P.size (walked-looks P caps tries i) few rows small

-- and they steer nothing: whatever is counted as looks, all else of the walk is the same
pub walked_unsteered :
    (P : Pattern) (caps : Caps) (γ : Marking → ℕ) (tries : ℕ) →
    lookless (walked P caps tries) ≡ lookless (walked_by P caps (bound P caps) γ tries)
unfolding walked rules_of walked_by rules_by
walked_unsteered P caps γ tries = looks_steer_nothing (rules_of P caps) (λ τ. γ (marking P τ)) tries (fresh_of P caps)

-- the walk after a + b tries is the walk after b tries from the record after a
pub walked_adds :
    (P : Pattern) (caps : Caps) (a b : ℕ) → walked P caps (a + b) ≡ walk (rules_of P caps) b (walked P caps a)
unfolding walked
walked_adds P caps a b = walk_adds (rules_of P caps) a b (fresh_of P caps)

-- a complete record stays as it is
pub walked-stays :
    (P : Pattern) (caps : Caps) (a b : ℕ) → (walked P caps a).complete ≡ true → walk (rules_of P caps) b (walked P caps a) ≡ walked P caps a
walked-stays P caps a b done = complete_stays (rules_of P caps) b (walked P caps a) done

-- every record that the walk reaches within the limit on tries passes the state check
pub walked_fine :
    (P : Pattern) (caps : Caps) (tries : ℕ) →
    Inside P → P.size ≤ caps.cap0 + caps.cap1 → caps_outside caps ≡ false → (walked P caps tries).tries ≤ tries_limit →
    state_fine (rules_of P caps) P.m P.n P.size (walked P caps tries) ≡ true
unfolding walked rules_of fresh_of
walked_fine P caps tries i enough small few =
    reached_fine P.m P.n P.size caps tries (rules_sound P caps i) (rules-looks P caps i) enough small few
