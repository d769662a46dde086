-- The evaluation of a marking of any set of lines, judged by what is kept of it.
-- Assumes nothing.
use Rattle.std.specs.Prelude.{true, false, ◌≡◌, ℕ, min}
use Rattle.model.specs.declared.Part.TheVariants.{Zero, One}
use Rattle.model.specs.declared.Caps.{Caps}
use Rattle.model.specs.Pattern.{Pattern}
use Rattle.model.specs.Marking.{Marking, taken, valid}
use Rattle.model.specs.Bound.{L1, L2, L3, L4, bound}
use Rattle.model.specs.Matching.{looks}
use Rattle.running.specs.declared.evaluating.Evaluation.{Evaluation}

-- no L1 to L4, no bound and no looks are given
abbrev pub NoBound : Evaluation → Type 0
NoBound r =
    (r.cut ≡ 0) × (r.torn ≡ 0) × (r.struck ≡ 0) × (r.matched ≡ 0) × (r.least ≡ 0) × (r.looks ≡ 0)

-- what an evaluation says of a marking, with the least of its bound and a count: all zero where it is not valid
pub record Evaluates (P : Pattern) (caps : Caps) (μ : Marking) (best : ℕ) (r : Evaluation) : Type 0 where
  pub valid_is : r.valid ≡ valid P caps μ
  pub zero_is : r.zero ≡ taken P μ Zero
  pub one-is : r.one ≡ taken P μ One
  pub cut_is : r.valid ≡ true → r.cut ≡ L1 P μ
  pub torn_is : r.valid ≡ true → r.torn ≡ L2 P μ
  pub struck_is : r.valid ≡ true → r.struck ≡ L3 P caps μ
  pub matched_is : r.valid ≡ true → r.matched ≡ L4 P μ
  pub least_is : r.valid ≡ true → r.least ≡ min (bound P caps μ) best
  pub looks_is : r.valid ≡ true → r.looks ≡ looks P μ
  pub none : r.valid ≡ false → NoBound r
