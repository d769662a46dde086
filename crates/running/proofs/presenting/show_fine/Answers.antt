-- `running::presenting::show_fine` meets its contract.
-- Assumes nothing.
use Rattle.pattern.specs.Matrix.{pattern_in}
use Rattle.model.proofs.Theorems.OfList.{size_of}
use Rattle.state.proofs.Accepting.{ready_fits, best_fits}
use Rattle.running.proofs.Shows.{shown-split, shown-none, parts_split, parts_none}
use Rattle.running.proofs.presenting.show_fine.Goals as goal

pub returns-then-search : goal.returns-then-search
returns-then-search c =
    let a = c.args in
    let x = a.ranked.now.matrix in
    let P = pattern_in x in
    let ready = a.ranked.now.made.ready in
    let fits = ready_fits _ _ _ _ _ _ _ a.search ready c.requires.tryable.fine in
    let best = best_fits a.search a.ranked.now.full ready.few fits c.if-search.true in
    record {
      answer = shown-split a.search P c.show_split-volume.result c.floor_shown-floor.result c.if-search.true (c.show_split-volume.ensures.volume best c.requires.room) c.floor_shown-floor.ensures;
      parts = parts_split a.search P x.nonzeros a.parts.now _ (size_of x.m x.n x.nonzeros x.list.now) c.if-search.true (c.show_split-volume.ensures.parts best);
    }

pub returns : goal.returns
returns c =
    let a = c.args in
    let P = pattern_in a.ranked.now.matrix in
    record { answer = shown-none a.search P c.floor_shown-floor.result c.if-search.false c.floor_shown-floor.ensures; parts = parts_none a.search P a.parts.now c.if-search.false }
