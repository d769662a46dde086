-- `running::beginning::run_from` meets its contract. The tables' matrix is the one whose lines are ranked.
-- Assumes nothing.
use mathlib.Core.Path.{sym, ◌∙◌, ap, subst}
use Rattle.model.specs.State.{record_of, search_of}
use Rattle.pattern.specs.declared.matrix.Matrix.{Matrix}
use Rattle.running.specs.Run.{rules_in, Startable}
use Rattle.running.specs.Trying.{walk_to}
use Rattle.running.proofs.Beginnings.{crossed_made, ranked_counted, order_made, given_keepable, given_kept}
use Rattle.running.proofs.beginning.run_from.Goals as goal

pub over-crossed-requires : goal.over-crossed-requires
over-crossed-requires c =
    let r = c.args.ranked.now in
    crossed_made r.matrix c.lines-lines.result (ranked_counted r.made) c.lines-lines.ensures c.line_starts-starts.ensures c.crossings-cross.ensures.1

pub over-tables-requires : goal.over-tables-requires
over-tables-requires c =
    record {
      same = c.over-crossed.ensures;
      ordered = order_made c.lines-lines.result c.args.ranked.now.made c.lines-lines.ensures c.order_of-order.ensures.1;
    }

pub of-kept-requires : goal.of-kept-requires
of-kept-requires c =
    let t = c.over-tables.result in
    let r = subst (λ (x : Matrix). Startable c.args.search x c.args.k c.args.budget) (sym c.over-tables.ensures) c.requires in
    given_keepable t r _ c.lines.ensures _ c.marks_before-given.ensures _ c.from.ensures

pub walk_on-requires : goal.walk_on-requires
walk_on-requires c =
    let t = c.over-tables.result in
    let r = subst (λ (x : Matrix). Startable c.args.search x c.args.k c.args.budget) (sym c.over-tables.ensures) c.requires in
    record {
      startable = r;
      holds = given_kept t r _ c.lines.ensures _ c.marks_before-given.ensures _ c.from.ensures c.of-kept.ensures;
    }

pub returns : goal.returns
returns c =
    let a = c.args in
    c.walk_on.ensures
    ∙ ap (λ (x : Matrix). search_of (walk_to (rules_in a.search x) a.k a.budget (record_of a.search))) c.over-tables.ensures
