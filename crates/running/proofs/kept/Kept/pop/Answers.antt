-- `running::kept::Kept::pop` meets its contract: the line's nonzeros are given back by its part, or it is no longer counted as cut; then it is unmarked and settled.
-- Assumes nothing.
use mathlib.Core.Path.{◌≡◌, refl, sym, ◌∙◌, ap}
use Prim.Native.Nat.{ℕ, ◌-◌, ◌≤◌, ◌<◌}
use native.Mathlib.Omega.{arith}
use lib.ListN.{get_or}
use Rattle.model.specs.Limits.{line_room}
use Rattle.model.specs.Pattern.{Pattern, lines}
use Rattle.model.specs.Marking.{Marking, unmarked}
use Rattle.pattern.specs.Matrix.{pattern_in}
use Rattle.crossing.specs.Crossing.{Laid}
use Rattle.keeping.specs.Kept.{meets, none, Stage, Holds, Placeable, marking_with}
use Rattle.keeping.proofs.MarkedLoads.{gain, gain_part, gain_cut}
use Rattle.keeping.proofs.Stages.{stage_part, stage_lifted, taking_part, taking_cut}
use Rattle.keeping.proofs.StagesSettled.{stage_remarked}
use Rattle.keeping.proofs.Holding.{left_open, mark_read, gain-within, holds_popped}
use Rattle.running.proofs.kept.Kept.pop.Goals as goal
use Rattle.running.proofs.kept.Kept.pop.Goals.{After-from-mark, Joined-mark-lt2, else-mark-lt2, then-mark-lt2}

-- the place where the line's mark has been read, and that where the two arms meet
abbrev MarkRead : Type 0
MarkRead =
    After-from-mark

abbrev ArmsJoined : Type 0
ArmsJoined =
    Joined-mark-lt2

-- what is kept at the start, with mark p for the line
abbrev HeldWith : MarkRead → Pattern → Marking → ℕ → Type 0
HeldWith c P μ p =
    let a = c.args in
    Holds P (marking_with μ a.l p) a.self.now.marks a.self.now.by a.self.now.left a.self.now.kinds a.self.now.tally a.self.now.sums a.self.now.loads

abbrev HeldWith-at-1 : Joined-mark-lt2 → Pattern → Marking → ℕ → Type 0
HeldWith-at-1 c P μ p =
    let a = c.args in
    Holds P (marking_with μ a.l p) a.self.now.marks a.self.now.by a.self.now.left a.self.now.kinds a.self.now.tally a.self.now.sums a.self.now.loads

-- the mark that is read is the line's
mark-is : (c : MarkRead) →
    let a = c.args in
    (P : Pattern) (μ : Marking) (p : ℕ) → Placeable P μ a.l p → HeldWith c P μ p →
    c.from-mark.result ≡ p
mark-is c P μ p place holds = c.from-mark.ensures ∙ mark_read place holds

mark-is-at-1 : (c : Joined-mark-lt2) → let a = c.args in (P : Pattern) (μ : Marking) (p : ℕ) → Placeable P μ a.l p → HeldWith-at-1 c P μ p → c.from-mark.result ≡ p
mark-is-at-1 c P μ p place holds = c.from-mark.ensures ∙ mark_read place holds

-- a part has taken the nonzeros of the line
ready : (c : MarkRead) →
    let a = c.args in
    (P : Pattern) (μ : Marking) (p : ℕ) → Laid P a.crossed.now.starts.now a.crossed.now.cross.now → Placeable P μ a.l p →
    HeldWith c P μ p → c.from-mark.result < 2 →
    Stage P μ c.from-mark.result (meets P a.l) a.self.now.marks a.self.now.by a.self.now.left a.self.now.kinds a.self.now.tally a.self.now.sums
ready c P μ p laid place holds b =
    let a = c.args in
    let e = mark-is c P μ p place holds in
    stage_lifted
    laid.inside
    place
    (meets P a.l)
    (taking_part P a.l p (omega (arith, e)))
    c.from-mark.result
    e
    holds.stage

ready-at-1 : (c : Joined-mark-lt2) → let a = c.args in (P : Pattern) (μ : Marking) (p : ℕ) → Laid P a.crossed.now.starts.now a.crossed.now.cross.now → Placeable P μ a.l p → HeldWith-at-1 c P μ p → c.from-mark.result < 2 → Stage P μ c.from-mark.result (meets P a.l) a.self.now.marks a.self.now.by a.self.now.left a.self.now.kinds a.self.now.tally a.self.now.sums
ready-at-1 c P μ p laid place holds b =
    let a = c.args in
    let e = mark-is-at-1 c P μ p place holds in
    stage_lifted
    laid.inside
    place
    (meets P a.l)
    (taking_part P a.l p (omega (arith, e)))
    c.from-mark.result
    e
    holds.stage

-- what both arms leave: nothing of the line is taken, and its gain is found
lifted : (c : ArmsJoined) →
    let a = c.args in
    let k = c.if-mark-lt2 in
    (P : Pattern) (μ : Marking) (p : ℕ) → Laid P a.crossed.now.starts.now a.crossed.now.cross.now → Placeable P μ a.l p →
    HeldWith-at-1 c P μ p →
    Stage P μ 0 none a.self.now.marks k.by k.left k.kinds k.tally k.sums × (k.gain ≡ gain P μ a.l p)
lifted c P μ p laid place holds =
    let a = c.args in
    let e = mark-is-at-1 c P μ p place holds in
    elim c.if-mark-lt2.branch [
      | then-mark-lt2 w ↦ let part = w.if-mark-lt2.true in
          let stage = w.count_all.ensures P μ laid place.line place.free (ready-at-1 c P μ p laid place holds part) in (
            rw (w.by-is, w.left-is, w.kinds-is, w.tally-is, w.sums-is) (stage_part 0 stage),
            w.gain-is ∙ omega (arith, left_open stage a.l place.line, gain_part P μ a.l p (omega (arith, e))),
          )
      | else-mark-lt2 w ↦ let cut : 2 ≤ p = omega (arith, e, w.if-mark-lt2.false) in (
        rw (w.by-is, w.left-is, w.kinds-is, w.tally-is, w.sums-is) (stage_part 0 (stage_lifted laid.inside place none (taking_cut P a.l p cut) p refl holds.stage)),
        w.gain-is ∙ sym (gain_cut P μ a.l p cut),
      )
    ]

pub count_all-requires : goal.count_all-requires
count_all-requires c =
    let q = c.requires in
    record {
      pattern = q.pattern;
      μ = q.μ;
      laid = q.laid;
      line = q.placeable.line;
      part = c.if-mark-lt2.true;
      free = q.placeable.free;
      stage = ready (goal.at.count_all-requires c).After-from-mark q.pattern q.μ q.p q.laid q.placeable q.holds c.if-mark-lt2.true;
    }

pub bounds-loads-mark : goal.bounds-loads-mark
bounds-loads-mark c =
    let q = c.requires in
    omega (arith, mark-is-at-1 (goal.at.bounds-loads-mark c).Joined-mark-lt2 q.pattern q.μ q.p q.placeable q.holds, q.placeable.mark)

pub bounds-loads-mark-2 : goal.bounds-loads-mark-2
bounds-loads-mark-2 c =
    let q = c.requires in
    omega (arith, mark-is-at-1 (goal.at.bounds-loads-mark-2 c).Joined-mark-lt2 q.pattern q.μ q.p q.placeable q.holds, q.placeable.mark)

pub overflow_sub-loads : goal.overflow_sub-loads
overflow_sub-loads c =
    let q = c.requires in
    let j = (goal.at.overflow_sub-loads c).Joined-mark-lt2 in
    omega (
      arith,
      ap (λ k. get_or c.args.self.now.loads k 0) (mark-is-at-1 j q.pattern q.μ q.p q.placeable q.holds),
      (lifted j q.pattern q.μ q.p q.laid q.placeable q.holds).1,
      gain-within (omega (arith, q.laid.few)) q.laid.inside q.placeable q.holds,
    )

pub settle-requires : goal.settle-requires
settle-requires c =
    let q = c.requires in
    let stage = (lifted (goal.at.settle-requires c).Joined-mark-lt2 q.pattern q.μ q.p q.laid q.placeable q.holds).0 in
    record {
      pattern = q.pattern;
      laid = q.laid;
      tied = stage.tied;
      kinds_long = stage.agree.kinds_long;
      line = q.placeable.line;
    }

pub returns : goal.returns
returns c =
    λ μ p place holds.
    let a = c.args in
    let P = pattern_in a.crossed.now.matrix in
    let laid = a.crossed.now.made.laid in
    let j = (goal.at.returns c).Joined-mark-lt2 in
    let few : lines P ≤ line_room = omega (arith, laid.few) in
    let left = lifted j P μ p laid place holds in
    rw
    (mark-is-at-1 j P μ p place holds, left.1)
    (holds_popped
    few
    laid.inside
    place
    holds
    (get_or a.self.now.loads p 0 - gain P μ a.l p)
    refl
    (stage_remarked
    a.l
    unmarked
    few
    left.0
    record { long = c.settle.ensures.0; kind_is = c.settle.ensures.1 }
    (c.settle.ensures.2 P laid place.line left.0.tied)))
