-- `state::holding::begun` meets its contract.
-- Assumes nothing.
use mathlib.Core.Path.{◌≡◌}
use Prim.Native.Nat.{suc, ◌+◌}
use native.Mathlib.Omega.{arith}
use Rattle.model.specs.Walk.{fresh}
use Rattle.model.specs.State.{is_found, best_or, search_of, no_record}
use Rattle.state.proofs.holding.begun.Goals as goal

pub returns : goal.returns
unfolding search_of fresh is_found best_or
returns c =
    let e : c.from.result + 2 ≡ suc c.args.k + 1 = omega (arith, c.from.ensures) in
    simp (c.no_search.ensures, c.first_trail.ensures, e)
