use Prim.Native.Nat.{ℕ}
use mathlib.Core.Path.{sym, ◌∙◌, ap}
use native.Mathlib.Omega.{arith}
use lib.ListN.{length, set, length-set}
use Rattle.matching.specs.Augmenting.{ground_in, unseen}
use Rattle.matching.proofs.Visits.Arrays.{unseen_most}
use Rattle.matching.proofs.Visits.Column.{ColumnAt, enter_fewer, at_entered, at_free, at_found, at_not}
use Rattle.matching.proofs.Visits.Row.{Turn, Nonzero, row_begins, odds_inside, from-none, from_pass, from-take, rest_begins, rest_ends, rest_skips, rest-found, rest_goes}
use Rattle.matching.proofs.augmenting.Ground.+column_visit_row_visit.Goals as goal
use Rattle.matching.proofs.augmenting.Ground.+column_visit_row_visit.Goals.{column_visit-After-from-column, row_visit-After-at_odds, row_visit-At-loop-t, row_visit-else-at_odds, row_visit-then-at_odds+else-visit}

-- what a visit of a column knows once its number is read
column-at : (t : ℕ) (c : column_visit-After-from-column t) →
    let a = c.args in
    ColumnAt (ground_in a.self.now) c.from-column.result a.j a.i a.seen.now a.mate.now
column-at t c =
    record {
      same = c.from-column.ensures;
      seen_long = c.requires.2;
      mate_long = c.requires.3;
      column-in = omega (arith, c.from-column.ensures, c.requires.0);
      row-in = c.requires.1;
    }

pub column_visit-returns-then-seen-column-ne0 : goal.column_visit-returns-then-seen-column-ne0
column_visit-returns-then-seen-column-ne0 t c =
    at_entered
    (column-at t (goal.at.column_visit-returns-then-seen-column-ne0 t c).After-from-column)
    c.if-seen-column-ne0.true

pub column_visit-returns-then-held-eq0 : goal.column_visit-returns-then-held-eq0
column_visit-returns-then-held-eq0 t c =
    at_free
    (column-at t (goal.at.column_visit-returns-then-held-eq0 t c).After-from-column)
    c.if-seen-column-ne0.false
    (omega arith)

pub column_visit-row_visit-visit-requires : goal.column_visit-row_visit-visit-requires
column_visit-row_visit-visit-requires t c =
    let at = column-at t (goal.at.column_visit-row_visit-visit-requires t c).After-from-column in
    let fewer = enter_fewer at c.if-seen-column-ne0.false in
    (omega (arith, c.decreases, fewer), (omega arith, length-set c.args.seen.now _ 1 ∙ c.requires.2, c.requires.3))

pub column_visit-overflow_add-looks : goal.column_visit-overflow_add-looks
column_visit-overflow_add-looks t c =
    let v = c.row_visit-visit in
    let a = c.args in
    let w = c.from-column in
    record {
      fits = omega (
        arith,
        v.ensures.paid,
        unseen_most (set a.seen.now w.result 1),
        length-set a.seen.now w.result 1,
        c.requires.2,
      );
    }

pub column_visit-returns-then-visit : goal.column_visit-returns-then-visit
column_visit-returns-then-visit t c =
    let v = c.row_visit-visit in
    at_found
    (column-at t (goal.at.column_visit-returns-then-visit t c).After-from-column)
    c.if-seen-column-ne0.false
    c.if-held-eq0.false
    v.result
    v.new.seen
    v.new.mate
    v.ensures
    c.if-visit.true

pub column_visit-returns : goal.column_visit-returns
column_visit-returns t c =
    let v = c.row_visit-visit in
    at_not
    (column-at t (goal.at.column_visit-returns t c).After-from-column)
    c.if-seen-column-ne0.false
    c.if-held-eq0.false
    v.result
    v.new.seen
    v.new.mate
    v.ensures
    c.if-visit.false

-- what a visit of a row knows at the head of its loop
row-turn : (t : ℕ) (c : row_visit-At-loop-t t) →
    let a = c.args in
    let l = c.loop-t in
    Turn (ground_in a.self.now) a.i c.end_of-end.result a.seen.now a.mate.now l.t l.looks l.seen l.mate
row-turn t c = record { rest = c.loop-t.invariant.4 }

-- and once it has tested whether it is at odds with a column
row-nonzero : (t : ℕ) (c : row_visit-After-at_odds t) →
    let a = c.args in
    Nonzero (ground_in a.self.now) a.i c.end_of-end.result c.loop-t.t c.column_of-j.result c.at_odds.result
row-nonzero t c =
    record {
      here = c.loop-t-test.true;
      same = c.column_of-j.ensures;
      odds_are = c.at_odds.ensures;
    }

pub row_visit-loop-t-init : goal.row_visit-loop-t-init
row_visit-loop-t-init t c =
    let a = c.args in
    let G = ground_in a.self.now in
    let first = c.first_of-first in
    let last = c.end_of-end in (
      c.requires.1,
      c.requires.2,
      omega arith,
      omega arith,
      rest_begins
          G
          a.i
          last.result
          first.result
          a.seen.now
          a.mate.now
          (row_begins G a.i first.result last.result c.requires.0 first.ensures last.ensures.0),
    )

pub row_visit-column_visit-visit-requires : goal.row_visit-column_visit-visit-requires
row_visit-column_visit-visit-requires t c =
    let a = c.args in
    let l = c.loop-t in
    let k = c.column_of-j in
    let o = c.at_odds in
    let odds = sym o.ensures ∙ c.if-at_odds.true in (
      omega (arith, c.decreases, l.invariant.2, l.invariant.3),
      (odds_inside a.self.now.lean.now a.self.now.m a.i k.result odds, c.requires.0, l.invariant.0, l.invariant.1),
    )

pub row_visit-overflow_add-looks : goal.row_visit-overflow_add-looks
row_visit-overflow_add-looks t c =
    let l = c.loop-t in
    let v = c.column_visit-visit in
    record {
      fits = omega (arith, v.ensures.paid, l.invariant.2, l.invariant.3, unseen_most c.args.seen.now, c.requires.1);
    }

pub row_visit-returns-then-visit : goal.row_visit-returns-then-visit
row_visit-returns-then-visit t c =
    let l = c.loop-t in
    let v = c.column_visit-visit in
    record {
      seen_long = v.ensures.seen_long;
      mate_long = v.ensures.mate_long;
      paid = omega (arith, v.ensures.paid, l.invariant.2, l.invariant.3, c.loop-t-test.true);
      is = rest-found
          (row-turn t (goal.at.row_visit-returns-then-visit t c).At-loop-t)
          c.column_of-j.result
          (from-take (row-nonzero t (goal.at.row_visit-returns-then-visit t c).After-at_odds) c.if-at_odds.true)
          v.result
          v.new.seen
          v.new.mate
          v.ensures
          (omega (arith, l.invariant.2, l.invariant.3))
          c.if-visit.true;
    }

pub row_visit-loop-t-preserved : goal.row_visit-loop-t-preserved
row_visit-loop-t-preserved t c =
    let l = c.loop-t in
    let here = c.loop-t-test.true in
    elim c.if-at_odds.branch [
      | row_visit-then-at_odds+else-visit w ↦ let v = w.column_visit-visit in (
        ap length w.seen-is ∙ v.ensures.seen_long,
        ap length w.mate-is ∙ v.ensures.mate_long,
        omega (arith, here),
        omega (arith, ap unseen w.seen-is, w.looks-is, v.ensures.paid, l.invariant.2, l.invariant.3),
        rest_goes
            (row-turn t (goal.at.row_visit-loop-t-preserved t c).At-loop-t)
            c.column_of-j.result
            (from-take (row-nonzero t (goal.at.row_visit-loop-t-preserved t c).After-at_odds) w.if-at_odds.true)
            v.result
            v.new.seen
            v.new.mate
            v.ensures
            (omega (arith, l.invariant.2, l.invariant.3))
            c.if-at_odds.seen
            c.if-at_odds.mate
            c.if-at_odds.looks
            w.if-visit.false
            w.seen-is
            w.mate-is
            w.looks-is,
      )
      | row_visit-else-at_odds w ↦ (
        ap length w.seen-is ∙ l.invariant.0,
        ap length w.mate-is ∙ l.invariant.1,
        omega (arith, here),
        omega (arith, ap unseen w.seen-is, w.looks-is, l.invariant.2, l.invariant.3),
        rest_skips
            (row-turn t (goal.at.row_visit-loop-t-preserved t c).At-loop-t)
            c.if-at_odds.seen
            c.if-at_odds.mate
            c.if-at_odds.looks
            (from_pass (row-nonzero t (goal.at.row_visit-loop-t-preserved t c).After-at_odds) w.if-at_odds.false)
            w.seen-is
            w.mate-is
            w.looks-is,
      )
    ]

pub row_visit-returns : goal.row_visit-returns
row_visit-returns t c =
    let a = c.args in
    let G = ground_in a.self.now in
    let l = c.loop-t in
    let e = c.end_of-end in
    record {
      seen_long = l.invariant.0;
      mate_long = l.invariant.1;
      paid = omega (arith, l.invariant.2, l.invariant.3);
      is = λ depth d. rest_ends
          (row-turn t (goal.at.row_visit-returns t c).At-loop-t)
          depth
          (from-none G a.i e.result l.t c.loop-t-test.false)
          d;
    }
