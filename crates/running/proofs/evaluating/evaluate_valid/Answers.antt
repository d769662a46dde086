-- `running::evaluating::evaluate_valid` meets its contract. The matrix with its crossing lines is the one that is given.
-- Assumes nothing.
use mathlib.Core.Bool.{true}
use mathlib.Core.Path.{◌≡◌, sym, ◌∙◌, subst}
use Prim.Native.Nat.{ℕ, ◌+◌, ◌≤◌, ◌<◌}
use native.Mathlib.Omega.{arith}
use Rattle.model.specs.Marking.{unmarked, valid}
use Rattle.model.proofs.Theorems.OfList.{lines_of}
use Rattle.pattern.specs.declared.matrix.Matrix.{Matrix}
use Rattle.pattern.specs.Matrix.{pattern_in}
use Rattle.weighing.specs.Cells.{marking_in}
use Rattle.weighing.specs.Taking.{TakenOf}
use Rattle.bound.proofs.Evaluations.{accepted_listed}
use Rattle.running.specs.Evaluating.{Evaluates}
use Rattle.running.specs.Tabled.{CountedOf}
use Rattle.running.specs.Laying.{first_marks}
use Rattle.running.proofs.Beginnings.{crossed_made, every_line}
use Rattle.running.proofs.Firsts.{first-valid, holds-given}
use Rattle.running.proofs.Evaluated.{listed_topped}
use Rattle.running.proofs.evaluating.evaluate_valid.Goals as goal

pub over-crossed-requires : goal.over-crossed-requires
over-crossed-requires c =
    let x = c.args.matrix.now in
    let counted : CountedOf x _ _ = record {
      listed = accepted_listed x.m x.n x.nonzeros x.list.now _ c.requires.0 (c.row_starts-rows.ensures x.m x.n);
      counts_long = c.line_counts-counts.ensures.0;
      counts_are = c.line_counts-counts.ensures.1;
    } in
    crossed_made x _ counted c.lines.ensures c.line_starts-starts.ensures c.crossings-cross.ensures.1

pub of-kept-requires : goal.of-kept-requires
of-kept-requires c =
    let t = c.over-crossed.result in
    record {
      caps = c.args.caps;
      every = every_line t _ _ c.lines-2.ensures c.from.ensures;
      fits = subst (λ (x : Matrix). valid (pattern_in x) c.args.caps (marking_in c.args.given.now) ≡ true) (sym c.over-crossed.ensures) c.requires.1;
    }

pub evaluate-requires : goal.evaluate-requires
evaluate-requires c =
    let t = c.over-crossed.result in
    let P = pattern_in t.matrix in
    let μ = marking_in c.args.given.now in
    let end = c.from.result in
    let listed = t.made.listed in
    let fits = subst (λ (x : Matrix). valid (pattern_in x) c.args.caps μ ≡ true) (sym c.over-crossed.ensures) c.requires.1 in
    record {
      μ = first_marks μ end;
      holds = c.of-kept.ensures c.args.caps (every_line t _ _ c.lines-2.ensures c.from.ensures) fits;
      meets_caps = first-valid c.args.caps μ end listed.inside fits;
      topped = listed_topped (first_marks μ end) listed;
    }

pub returns : goal.returns
returns c = λ known takes.
    let a = c.args in
    let t = c.over-crossed.result in
    let P = pattern_in t.matrix in
    let μ = marking_in a.given.now in
    let is = sym c.over-crossed.ensures in
    let fits = subst (λ (x : Matrix). valid (pattern_in x) a.caps μ ≡ true) is c.requires.1 in
    let every = every_line t _ _ c.lines-2.ensures c.from.ensures in
    let marks = subst (λ (x : Matrix). (l : ℕ) → l < x.m + x.n → μ l ≤ unmarked) is known in
    let held = c.of-kept.ensures a.caps every fits in
    subst
    (λ (x : Matrix). Evaluates (pattern_in x) a.caps μ a.best c.evaluate.result)
    c.over-crossed.ensures
    (c.evaluate.ensures μ
    (holds-given t.made.listed.inside μ c.from.result every (λ l b. marks l (omega (arith, lines_of t.matrix.m t.matrix.n t.matrix.nonzeros t.matrix.list.now))) held)
    fits
    (subst (λ (x : Matrix). TakenOf (pattern_in x) μ a.taken) is takes))
