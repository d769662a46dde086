-- `state::fresh_search` meets its contract.
-- Assumes nothing.
use mathlib.Core.Path.{◌≡◌, sym, ◌∙◌, ap}
use Prim.Native.Nat.{ℕ, suc, ◌-◌}
use native.Mathlib.Omega.{arith}
use Rattle.model.specs.Walk.{fresh}
use Rattle.model.specs.State.{search_of}
use Rattle.state.proofs.holding.fresh_search.Goals as goal

pub returns-then-k-eq0 : goal.returns-then-k-eq0
returns-then-k-eq0 c =
    let a = c.args in
    c.blank.ensures ∙ ap (λ (k : ℕ). search_of (fresh a.m a.n a.nonzeros a.caps k)) (sym c.if-k-eq0.true)

pub returns : goal.returns
returns c =
    let a = c.args in
    let e : suc (a.k - 1) ≡ a.k = omega arith in
    c.begun.ensures ∙ ap (λ (k : ℕ). search_of (fresh a.m a.n a.nonzeros a.caps k)) e
