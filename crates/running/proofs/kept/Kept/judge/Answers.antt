-- `running::kept::Kept::judge` meets its contract.
-- Assumes nothing.
use mathlib.Core.Path.{◌≡◌, ◌∙◌, ap}
use Prim.Native.Nat.{ℕ, min}
use native.Mathlib.Omega.{arith}
use Rattle.bound.proofs.Lowers.{matched_are}
use Rattle.judging.proofs.Conditions.{kinds_lean, conflicts_kept}
use Rattle.judging.proofs.Bounds.{bound_kept}
use Rattle.running.proofs.kept.Kept.judge.Goals as goal

pub returns : goal.returns
returns c =
    let a = c.args in
    let t = a.crossed.now in
    let x = t.matrix in
    let listed = t.made.listed in
    let top = c.from.result in
    let matching = c.matched_of-matching.result in
    λ μ h v topped.
    let found =
    matched_are
    x.m
    x.n
    x.nonzeros
    x.list.now
    t.rows.now
    μ
    a.self.now.kinds
    listed
    (kinds_lean h)
    _
    matching
    (conflicts_kept h listed.inside)
    c.matched_of-matching.ensures.0 in
    let same : top ≡ a.top = c.from.ensures in (
      c.least_with-least.ensures
          ∙ ap
          (λ (x : ℕ). min x a.best)
          (bound_kept
          listed.inside
          h
          top
          (omega (arith, topped.light))
          (λ l b e. omega (arith, topped.above l b e))
          a.caps
          matching.size
          found.0),
      found.1,
    )
