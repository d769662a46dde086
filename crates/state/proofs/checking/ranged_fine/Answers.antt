-- `state::ranged_fine` meets its contract.
-- Assumes nothing.
use mathlib.Core.Bool.{Bool}
use mathlib.Core.List.{List}
use mathlib.Core.Path.{◌≡◌, sym, ◌∙◌, ap}
use Prim.Native.Nat.{ℕ}
use Rattle.counting.specs.Tests.{◌and◌}
use Rattle.state.specs.StateBy.{trail_by}
use Rattle.state.proofs.Validities.{checked_is}
use Rattle.counting.proofs.Joined.{clash}
use Rattle.model.specs.Walk.{rules_of}
use Rattle.model.specs.State.{caps_in, record_of, state_fine}
use Rattle.pattern.specs.Matrix.{pattern_in}
use Rattle.state.specs.Ready.{ReadyIn}
use Rattle.state.proofs.checking.ranged_fine.Goals as goal
use Rattle.state.proofs.checking.ranged_fine.Goals.{After-best_fine-best, then-numbers, else-numbers}

pub numbers_fine-numbers-requires : goal.numbers_fine-numbers-requires
numbers_fine-numbers-requires c = c.requires

-- the three tests together are the state check
checked : (c : After-best_fine-best) (starts : List ℕ) → ReadyIn c.args.matrix.now c.args.places.now starts c.args.k →
    (c.numbers_fine-numbers.result and c.trail_fine-trail.result and c.best_fine-best.result)
    ≡ state_fine
    (rules_of (pattern_in c.args.matrix.now) (caps_in c.args.search))
    c.args.matrix.now.m
    c.args.matrix.now.n
    c.args.matrix.now.nonzeros
    (record_of c.args.search)
checked c starts ready =
    let a = c.args in
    checked_is
    a.matrix.now.m
    a.matrix.now.n
    a.matrix.now.nonzeros
    a.matrix.now.list.now
    a.places.now
    starts
    a.k
    a.search
    c.drop-beginning.result
    c.valid_of-begins.result
    c.valid_of-full.result
    c.numbers_fine-numbers.result
    c.trail_fine-trail.result
    c.best_fine-best.result
    (record {
      short = c.drop-beginning.ensures;
      begins_is = c.valid_of-begins.ensures;
      full_is = c.valid_of-full.ensures;
      numbers_are = c.numbers_fine-numbers.ensures;
      trail_test = c.trail_fine-trail.ensures
          ∙ ap
          (λ (j : ℕ). trail_by a.search.complete a.search.trail j c.valid_of-begins.result c.unequal_caps.result)
          c.from.ensures
          ∙ ap
          (λ (first : Bool). trail_by a.search.complete a.search.trail a.k c.valid_of-begins.result first)
          c.unequal_caps.ensures;
      best_test = c.best_fine-best.ensures;
    })
    ready

pub returns-then-sound : goal.returns-then-sound
unfolding ◌and◌
returns-then-sound c starts ready =
    let all = checked (goal.at.returns-then-sound c).After-best_fine-best starts ready in
    elim c.if-numbers.branch [
      | then-numbers w ↦ simp (w.if-numbers.true, sym w.sound-is ∙ c.if-sound.true) at all
      | else-numbers w ↦ clash c.if-sound.true (w.sound-is ∙ w.if-numbers.false)
    ]

pub returns-else-sound : goal.returns-else-sound
unfolding ◌and◌
returns-else-sound c starts ready =
    let all = checked (goal.at.returns-else-sound c).After-best_fine-best starts ready in
    elim c.if-numbers.branch [
      | then-numbers w ↦ c.if-sound.false ∙ simp (w.if-numbers.true, sym w.sound-is ∙ c.if-sound.false) at all
      | else-numbers w ↦ c.if-sound.false ∙ simp w.if-numbers.false at all
    ]
