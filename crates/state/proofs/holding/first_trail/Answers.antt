-- `state::first_trail` meets its contract.
-- Assumes nothing.
use mathlib.Core.List.{[]}
use mathlib.Core.Path.{◌∙◌, ap}
use native.Mathlib.Omega.{arith}
use Rattle.trail.specs.declared.Trail.{Trail}
use Rattle.trail.specs.Trail.{appended}
use Rattle.marking.proofs.Trails.{appended-is}
use Rattle.state.proofs.holding.first_trail.Goals as goal

pub returns : goal.returns
returns c =
    c.append.ensures ∙ ap (λ (t : Trail). appended t 0) c.no_trail.ensures ∙ appended-is 0 [] (omega arith)
