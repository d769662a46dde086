-- `running::kept::Kept::try_mark` meets its contract.
-- Assumes nothing.
use mathlib.Core.Bool.{Bool, true}
use mathlib.Core.List.{◌∷◌}
use mathlib.Core.Path.{◌≡◌, refl, sym, ◌∙◌}
use Prim.Native.Nat.{ℕ, ◌≤◌, ◌<◌, min}
use native.Mathlib.Omega.{arith}
use borrow.Author.Tests.{lt-ltb, le-ltb}
use lib.ListN.{get_or}
use Rattle.counting.specs.Tests.{pick}
use Rattle.model.specs.declared.Caps.{Caps}
use Rattle.model.specs.Pattern.{Pattern, Inside, lines, line_count}
use Rattle.model.specs.Marking.{Marking, marking, unmarked, valid}
use Rattle.model.specs.Bound.{bound}
use Rattle.model.specs.Matching.{looks}
use Rattle.pattern.specs.Matrix.{pattern_in}
use Rattle.crossing.specs.Crossing.{Laid}
use Rattle.keeping.specs.Kept.{marking_with, Placeable}
use Rattle.running.specs.declared.kept.Kept.{Kept}
use Rattle.running.specs.declared.tables.Crossed.{Crossed}
use Rattle.running.specs.Kept.{Keeps}
use Rattle.running.specs.Judging.{Topped}
use Rattle.running.specs.Walking.{Attemptable}
use Rattle.running.proofs.Attempts.{next_line_lem, next-unmarked, next_fits, with_valid, with_holds, with_topped, attempt_unfit, attempt_fit}
use Rattle.running.proofs.kept.Kept.try_mark.Goals as goal

module _ {t : Crossed} {kept : Kept} {l p : ℕ} {caps : Caps} (g : Attemptable t kept l p caps) where
  abbrev P : Pattern
  P = pattern_in t.matrix

  abbrev laid : Laid P t.starts.now t.cross.now
  laid = t.made.laid

  -- the nonzeros of the line
  counted : get_or t.counts.now l 0 ≡ line_count P l
  counted = t.made.counts_are l (next_line_lem laid.inside g.next)

  few : l < 1024
  few = omega (arith, next_line_lem laid.inside g.next, laid.few)

  -- whether the mark fits
  fitted :
      {fit : Bool} →
      ((Q : Pattern) (μ : Marking) → Inside Q → Keeps Q μ kept → l < lines Q → μ l ≡ unmarked → p ≤ 2 → valid Q caps μ ≡ true →
      (fit ≡ valid Q caps (marking_with μ l p)) × (fit ≡ true → Placeable Q μ l p)) →
      (fit ≡ valid P caps (marking P (p ∷ g.τ)))
      × (fit ≡ true → Placeable P (marking P g.τ) l p)
  fitted says =
      let i = laid.inside in
      let e = says P (marking P g.τ) i g.holds (next_line_lem i g.next) (next-unmarked i g.next) g.next.mark (next_fits i g.next) in
      (e.0 ∙ with_valid i g.next, e.1)

  -- what the bound says of the marking with it
  judged :
      (best : ℕ) {new : Kept} {least looked : ℕ} → valid P caps (marking P (p ∷ g.τ)) ≡ true →
      Keeps P (marking_with (marking P g.τ) l p) new →
      ((μ : Marking) → Keeps P μ new → valid P caps μ ≡ true →
      Topped P μ (get_or t.counts.now l 0) →
      (least ≡ min (bound P caps μ) best) × (looked ≡ looks P μ)) →
      (least ≡ min (bound P caps (marking P (p ∷ g.τ))) best)
      × (looked ≡ looks P (marking P (p ∷ g.τ)))
  judged best fits held says =
      let i = laid.inside in
      says (marking P (p ∷ g.τ)) (with_holds i g.next held) fits (with_topped i g.next fits laid.thin _ counted)

pub is_fit-requires : goal.is_fit-requires
is_fit-requires c = few c.requires

pub push-requires : goal.push-requires
push-requires c =
    let q = c.requires in
    record {
      pattern = pattern_in c.args.crossed.now.matrix;
      μ = marking (pattern_in c.args.crossed.now.matrix) q.τ;
      laid = c.args.crossed.now.made.laid;
      placeable = (fitted q c.is_fit.ensures).1 c.if-is_fit.true;
      holds = q.holds;
    }

pub offset_bounds-crossed-l : goal.offset_bounds-crossed-l
offset_bounds-crossed-l c = let h = few c.requires in omega arith

pub bounds-crossed-l : goal.bounds-crossed-l
bounds-crossed-l c = few c.requires

pub judge-judged-requires : goal.judge-judged-requires
judge-judged-requires c =
    let q = c.requires in
    let P = pattern_in c.args.crossed.now.matrix in
    let e = fitted q c.is_fit.ensures in
    let fits = sym e.0 ∙ c.if-is_fit.true in
    record {
      μ = marking P (c.args.p ∷ q.τ);
      holds = with_holds c.args.crossed.now.made.laid.inside q.next (c.push.ensures (marking P q.τ) (e.1 c.if-is_fit.true) q.holds);
      meets_caps = fits;
      topped = with_topped c.args.crossed.now.made.laid.inside q.next fits c.args.crossed.now.made.laid.thin _ (counted q);
    }

pub pop-requires : goal.pop-requires
pop-requires c =
    let q = c.requires in
    let P = pattern_in c.args.crossed.now.matrix in
    let place = (fitted q c.is_fit.ensures).1 c.if-is_fit.true in
    record {
      pattern = P;
      μ = marking P q.τ;
      p = c.args.p;
      laid = c.args.crossed.now.made.laid;
      placeable = place;
      holds = c.push.ensures (marking P q.τ) place q.holds;
    }

pub returns-then-least-best : goal.returns-then-least-best
unfolding pick
returns-then-least-best c = λ τ next holds.
    let laid = c.args.crossed.now.made.laid in
    let P = pattern_in c.args.crossed.now.matrix in
    let g : Attemptable c.args.crossed.now c.args.self.now c.args.l c.args.p c.args.caps = record { τ = τ; next = next; holds = holds } in
    let e = fitted g c.is_fit.ensures in
    let fits = sym e.0 ∙ c.if-is_fit.true in
    let held = c.push.ensures (marking P τ) (e.1 c.if-is_fit.true) holds in
    let j = judged g c.args.best fits held c.judge-judged.ensures in
    attempt_fit laid.inside next _ fits j.0 (sym (lt-ltb _ _ c.if-least-best.true)) j.1 (with_holds laid.inside next held)

pub returns-then-is_fit : goal.returns-then-is_fit
unfolding pick
returns-then-is_fit c = λ τ next holds.
    let laid = c.args.crossed.now.made.laid in
    let P = pattern_in c.args.crossed.now.matrix in
    let g : Attemptable c.args.crossed.now c.args.self.now c.args.l c.args.p c.args.caps = record { τ = τ; next = next; holds = holds } in
    let e = fitted g c.is_fit.ensures in
    let fits = sym e.0 ∙ c.if-is_fit.true in
    let place = e.1 c.if-is_fit.true in
    let held = c.push.ensures (marking P τ) place holds in
    let j = judged g c.args.best fits held c.judge-judged.ensures in
    attempt_fit laid.inside next _ fits j.0 (sym (le-ltb _ _ c.if-least-best.false)) j.1 (c.pop.ensures (marking P τ) c.args.p place held)

pub returns : goal.returns
returns c = λ τ next holds.
    let laid = c.args.crossed.now.made.laid in
    let g : Attemptable c.args.crossed.now c.args.self.now c.args.l c.args.p c.args.caps = record { τ = τ; next = next; holds = holds } in
    attempt_unfit laid.inside next _ refl refl (sym (fitted g c.is_fit.ensures).0 ∙ c.if-is_fit.false) holds
