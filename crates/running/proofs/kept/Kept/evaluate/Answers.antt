-- `running::kept::Kept::evaluate` meets its contract.
-- Assumes nothing.
use mathlib.Core.Path.{refl, sym}
use native.Mathlib.Omega.{arith}
use Rattle.counting.proofs.Joined.{clash}
use Rattle.bound.proofs.Lowers.{matched_are}
use Rattle.judging.proofs.Conditions.{kinds_lean, torn_kept, conflicts_kept}
use Rattle.running.proofs.Evaluated.{listed_topped, struck_both, both_few}
use Rattle.running.proofs.kept.Kept.evaluate.Goals as goal

pub overflow_add-struck : goal.overflow_add-struck
overflow_add-struck c =
    let q = c.requires in
    let top = c.from-top in
    let few = both_few c.args.crossed.now.made.laid q.holds q.topped _ top.result _ _ (omega arith) c.strike_part-zero.ensures c.strike_part-one.ensures in
    omega arith

pub returns : goal.returns
returns c =
    let a = c.args in
    let t = a.crossed.now in
    let x = t.matrix in
    let listed = t.made.listed in
    let laid = t.made.laid in
    let top = c.from-top in
    λ μ h v takes.
    let topped = listed_topped μ listed in
    let judged = c.judge-judged.ensures μ h v topped in
    let found = matched_are x.m x.n x.nonzeros x.list.now t.rows.now μ a.self.now.kinds listed (kinds_lean h) _ c.matched_of-matching.result (conflicts_kept h laid.inside) c.matched_of-matching.ensures.0 in
    record {
      valid_is = sym v;
      zero_is = takes.zero_is;
      one-is = takes.one-is;
      cut_is = λ e. h.cut_is;
      torn_is = λ e. torn_kept h;
      struck_is = λ e. struck_both laid h topped a.caps top.result _ _ (omega arith) c.strike_part-zero.ensures c.strike_part-one.ensures;
      matched_is = λ e. found.0;
      least_is = λ e. judged.0;
      looks_is = λ e. judged.1;
      none = λ e. clash refl e;
    }
