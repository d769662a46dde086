-- The pattern of a list and its rules, by name.
-- Assumes nothing.
use mathlib.Core.List.{List}
use mathlib.Core.Path.{◌≡◌, refl}
use Prim.Native.Nat.{ℕ, ◌+◌}
use Rattle.model.specs.declared.Caps.{Caps}
use Rattle.model.specs.Pattern.{Pattern, pattern_of, lines, line_total}
use Rattle.model.specs.Split.{unequal}
use Rattle.model.specs.Marking.{marking, valid}
use Rattle.model.specs.Walk.{rules_of}

-- its nonzeros
pub size_of : (m n nonzeros : ℕ) (list : List ℕ) → (pattern_of m n nonzeros list).size ≡ nonzeros
unfolding pattern_of
size_of m n nonzeros list = refl

-- its lines
pub lines_of : (m n nonzeros : ℕ) (list : List ℕ) → lines (pattern_of m n nonzeros list) ≡ m + n
unfolding lines pattern_of
lines_of m n nonzeros list = refl

-- k of the walk: the lines with nonzeros
pub rules_k : (P : Pattern) (caps : Caps) → (rules_of P caps).k ≡ line_total P
unfolding rules_of
rules_k P caps = refl

-- whether mark 1 may come first
pub rules-first : (P : Pattern) (caps : Caps) → (rules_of P caps).one_first ≡ unequal caps
unfolding rules_of
rules-first P caps = refl

-- what the walk calls valid
pub rules-valid : (P : Pattern) (caps : Caps) (τ : List ℕ) → valid P caps (marking P τ) ≡ (rules_of P caps).valid τ
unfolding rules_of
rules-valid P caps τ = refl
