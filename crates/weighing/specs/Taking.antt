-- What a marking takes, as the code answers it.
-- Assumes nothing.
use Rattle.std.specs.Prelude.{Bool, not, ◌≡◌, leb}
use Rattle.counting.specs.Tests.{◌and◌}
use Rattle.counting.specs.Sums.{any}
use Rattle.model.specs.declared.Part.TheVariants.{Zero, One}
use Rattle.model.specs.declared.Caps.{Caps}
use Rattle.model.specs.Pattern.{Pattern}
use Rattle.model.specs.Marking.{Marking, takes, taken}
use Rattle.weighing.specs.declared.taking.Taken.{Taken}

-- what the pass over the nonzeros answers
pub record TakenOf (P : Pattern) (μ : Marking) (r : Taken) : Type 0 where
  pub zero_is : r.zero ≡ taken P μ Zero
  pub one-is : r.one ≡ taken P μ One
  pub both_is : r.both ≡ any (λ t. takes P μ Zero t and takes P μ One t) P.size

-- valid, by what is taken
unfoldable pub valid_by : Taken → Caps → Bool
valid_by r caps = not r.both and leb r.zero caps.cap0 and leb r.one caps.cap1
