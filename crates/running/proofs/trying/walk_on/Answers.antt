-- `running::trying::walk_on` meets its contract.
-- Assumes nothing.
use mathlib.Core.Bool.{Bool, true, false, not}
use mathlib.Core.List.{List, ◌∷◌}
use mathlib.Core.Path.{◌≡◌, sym, ◌∙◌, ap, subst}
use Prim.Native.Nat.{ℕ, ◌+◌, ◌-◌, ◌≤◌}
use native.Mathlib.Omega.{arith}
use borrow.Author.Tests.{lt-ltb, le-ltb, eq-eqb, ne_eqb}
use lib.ListN.{length, get_or}
use Rattle.counting.specs.Tests.{pick}
use Rattle.counting.proofs.Joined.{clash, and_fails_left, and_fails_right, pick_true, pick-false}
use Rattle.trail.specs.declared.Trail.{Trail}
use Rattle.model.specs.declared.Search.{Search}
use Rattle.model.specs.declared.Caps.{Caps}
use Rattle.model.specs.Marking.{mark_at, marking}
use Rattle.model.specs.Walk.{Record, rules_of, is_empty, advance, looks_at, stands}
use Rattle.model.specs.State.{stack, caps_in, record_of}
use Rattle.model.proofs.Theorems.OfList.{rules-first}
use Rattle.model.proofs.Walk.Legal.{Legal}
use Rattle.packing.specs.declared.PackedTrail.{PackedTrail}
use Rattle.packing.specs.Packed.{earlier, last_of, Packs}
use Rattle.pattern.specs.declared.matrix.Matrix.{Matrix}
use Rattle.pattern.specs.Matrix.{pattern_in}
use Rattle.running.specs.declared.kept.Kept.{Kept}
use Rattle.running.specs.declared.tables.Tables.{Tables}
use Rattle.running.specs.declared.walking.Tried.{Tried}
use Rattle.running.specs.Kept.{Keeps}
use Rattle.running.specs.Walking.{Standing, Next, Attempted, Liftable}
use Rattle.running.specs.Trying.{walk_to}
use Rattle.running.specs.Run.{rules_in, Goes, Walkable}
use Rattle.running.proofs.Turns.{trail_split, earlier-length}
use Rattle.running.proofs.Outcomes.{goes_grown, goes_bettered, goes_given_up, goes_same}
use Rattle.running.proofs.Goings.{next-room, next_mark_lem, attempted_trail, stands_by, placed_standing, placed_holds, lifted_holds, lifted_fewer, stands-valid}
use Rattle.running.proofs.Walked.{none_empty, going_at, goes_start, looks-room, run_ends, one_more, tries_more}
use Rattle.running.proofs.trying.walk_on.Goals as goal
use Rattle.running.proofs.trying.walk_on.Goals.{then-tried+then-len-full, else-tried, then-tried-2, else-tried-2, else-tried-via-then-tried+else-len-full, else-tried-via-else-tried, then-loop-trail-test+else-made-budget, else-loop-trail-test}

-- the walk's record before a try
abbrev at : Search → Matrix → ℕ → ℕ → Record
at s x k made = walk_to (rules_in s x) k made (record_of s)

module _
    {s : Search} {t : Tables} {begun : Kept} {k budget : ℕ} (w : Walkable s t begun k budget)
    (made : ℕ) {trail : PackedTrail} {best : Trail} {count : ℕ} {found : Bool} {looks : ℕ} {kept : Kept}
    (g : Goes (pattern_in t.crossed.matrix) (at s t.crossed.matrix k made) trail best count found looks kept) (marked : trail.len ≡ 0 → ⊥) where
  -- its trail has marks,
  some : is_empty (at s t.crossed.matrix k made).trail ≡ false
  some = sym (none_empty _ trail.len g.packs.long) ∙ ne_eqb trail.len 0 marked

  -- no more than there is room for,
  long : (1 ≤ trail.len) × (trail.len ≤ 600)
  long = (omega arith, omega (arith, g.packs.long, g.packs.fits))

  legal : Legal (rules_in s t.crossed.matrix) (at s t.crossed.matrix k made).trail
  legal = (going_at w.startable made).legal

  -- the last on the next line in order
  next :
      {l p : ℕ} → l ≡ get_or t.order.now (trail.len - 1) 0 → ((q : ℕ) (τ : List ℕ) → Packs trail (q ∷ τ) → p ≡ q) →
      Next (pattern_in t.crossed.matrix) (caps_in s) (earlier (at s t.crossed.matrix k made).trail) l p × (p ≡ last_of (at s t.crossed.matrix k made).trail)
  next there says =
      let r = at s t.crossed.matrix k made in
      let d : trail.len - 1 ≡ length (earlier r.trail) = omega (arith, g.packs.long, earlier-length r.trail) in
      let is = says (last_of r.trail) (earlier r.trail) (subst (λ (ρ : List ℕ). Packs trail ρ) (trail_split r.trail some) g.packs) in
      let line = there ∙ ap (λ (i : ℕ). get_or t.order.now i 0) d ∙ t.made.tabled.ordered.line_is _ (next-room (pattern_in t.crossed.matrix) _ r.trail legal some) in
      (next_mark_lem (pattern_in t.crossed.matrix) _ r.trail legal some _ _ line is, is)

  -- what a try with it answers
  abbrev Answers : Tried → Kept → Type 0
  Answers tried new =
      (tried.stands ≡ stands (rules_in s t.crossed.matrix) (at s t.crossed.matrix k made))
      × (tried.stands ≡ true → tried.least ≡ (rules_in s t.crossed.matrix).bound (at s t.crossed.matrix k made).trail)
      × (tried.looks ≡ looks_at (rules_in s t.crossed.matrix) (at s t.crossed.matrix k made).trail)
      × Keeps (pattern_in t.crossed.matrix) (marking (pattern_in t.crossed.matrix) (pick tried.stands (at s t.crossed.matrix k made).trail (earlier (at s t.crossed.matrix k made).trail))) new

  judged :
      {l p : ℕ} (tried : Tried) {new : Kept} → Next (pattern_in t.crossed.matrix) (caps_in s) (earlier (at s t.crossed.matrix k made).trail) l p × (p ≡ last_of (at s t.crossed.matrix k made).trail) →
      ((τ : List ℕ) → Next (pattern_in t.crossed.matrix) (caps_in s) τ l p → Keeps (pattern_in t.crossed.matrix) (marking (pattern_in t.crossed.matrix) τ) kept →
      Attempted (pattern_in t.crossed.matrix) (caps_in s) τ p count tried new) → Answers tried new
  judged tried n says =
      let r = at s t.crossed.matrix k made in
      let e =
      attempted_trail (pattern_in t.crossed.matrix) _ r.trail legal some
      (says (earlier r.trail) n.0 g.holds) n.1 in
      (stands_by _ r count e.0 g.count_is, e.1, e.2, e.3)

  -- the marks that are placed after it stand,
  standing :
      (tried : Tried) {new : Kept} {placed : ℕ} → Answers tried new → placed ≡ pick tried.stands trail.len (trail.len - 1) →
      Standing (rules_in s t.crossed.matrix) (stack (mark_at (at s t.crossed.matrix k made).trail) placed)
  standing tried j from =
      let r = at s t.crossed.matrix k made in
      subst
      (λ (i : ℕ). Standing (rules_in s t.crossed.matrix) (stack (mark_at r.trail) i))
      (sym from)
      (placed_standing (pattern_in t.crossed.matrix) _ r.trail legal some _ trail.len g.packs.long (stands-valid _ r j.0))

  held :
      (tried : Tried) {new : Kept} {placed : ℕ} → Answers tried new → placed ≡ pick tried.stands trail.len (trail.len - 1) →
      Keeps (pattern_in t.crossed.matrix) (marking (pattern_in t.crossed.matrix) (stack (mark_at (at s t.crossed.matrix k made).trail) placed)) new
  held tried {new} j from =
      let r = at s t.crossed.matrix k made in
      subst
      (λ (i : ℕ). Keeps (pattern_in t.crossed.matrix) (marking (pattern_in t.crossed.matrix) (stack (mark_at r.trail) i)) new)
      (sym from)
      (placed_holds (pattern_in t.crossed.matrix) _ r.trail legal some _ trail.len g.packs.long j.3)

  -- so that they can be lifted,
  liftable :
      (tried : Tried) {new : Kept} {placed : ℕ} → Answers tried new → placed ≡ pick tried.stands trail.len (trail.len - 1) → Liftable t new placed
  liftable tried j from =
      record {
        caps = caps_in s;
        mark = mark_at (at s t.crossed.matrix k made).trail;
        standing = standing tried j from;
        holds = held tried j from;
      }

  -- and are, down to those of the trail advanced
  lifted :
      (tried : Tried) (first : Bool) {new last : Kept} {placed to : ℕ} {ahead : PackedTrail} → Answers tried new →
      placed ≡ pick tried.stands trail.len (trail.len - 1) → Packs ahead (advance first (at s t.crossed.matrix k made).trail) → to ≡ ahead.len - 1 →
      ((caps : Caps) (mark : ℕ → ℕ) → Standing (rules_of (pattern_in t.crossed.matrix) caps) (stack mark placed) → to ≤ placed →
      Keeps (pattern_in t.crossed.matrix) (marking (pattern_in t.crossed.matrix) (stack mark placed)) new → Keeps (pattern_in t.crossed.matrix) (marking (pattern_in t.crossed.matrix) (stack mark to)) last) →
      Keeps (pattern_in t.crossed.matrix) (marking (pattern_in t.crossed.matrix) (earlier (advance first (at s t.crossed.matrix k made).trail))) last
  lifted tried first {to = to} j from packs down says =
      let r = at s t.crossed.matrix k made in
      let less = down ∙ ap (λ (i : ℕ). i - 1) packs.long in
      let fewer = subst (λ (i : ℕ). to ≤ i) (sym from) (lifted_fewer (pattern_in t.crossed.matrix) _ r.trail legal some first _ trail.len to g.packs.long less) in
      lifted_holds (pattern_in t.crossed.matrix) _ r.trail legal some first to less
      (says (caps_in s) (mark_at r.trail) (standing tried j from) fewer (held tried j from))

pub loop-trail-init : goal.loop-trail-init
unfolding walk_to record_of
loop-trail-init c = (omega arith, omega arith, goes_start c.args.tables.now c.requires.startable c.packed-trail.ensures c.requires.holds)

pub offset_bounds-tables-len : goal.offset_bounds-tables-len
offset_bounds-tables-len c = let h = (long c.requires c.loop-trail.made c.loop-trail.invariant.2 c.loop-trail-test.true).1 in omega arith

pub bounds-tables-len : goal.bounds-tables-len
bounds-tables-len c = let h = (long c.requires c.loop-trail.made c.loop-trail.invariant.2 c.loop-trail-test.true).1 in omega arith

pub try_mark-tried-requires : goal.try_mark-tried-requires
try_mark-tried-requires c =
    let l = c.loop-trail in
    let w = c.requires in
    let n = next w l.made l.invariant.2 c.loop-trail-test.true c.from-l.ensures c.last-p.ensures in
    record {
      τ = earlier (at c.args.search c.args.tables.now.crossed.matrix c.args.k l.made).trail;
      next = n.0;
      holds = l.invariant.2.holds;
    }

pub overflow_add-looks : goal.overflow_add-looks
overflow_add-looks c =
    let l = c.loop-trail in
    let some = c.loop-trail-test.true in
    let n = next c.requires l.made l.invariant.2 some c.from-l.ensures c.last-p.ensures in
    let j = judged c.requires l.made l.invariant.2 some c.try_mark-tried.result n c.try_mark-tried.ensures in
    record { fits = looks-room c.args.tables.now c.requires.startable l.made l.looks _ c.if-made-budget.true l.invariant.1 l.invariant.2.looks_is j.2 }

pub lift-requires : goal.lift-requires
lift-requires c =
    let l = c.loop-trail in
    let some = c.loop-trail-test.true in
    let n = next c.requires l.made l.invariant.2 some c.from-l.ensures c.last-p.ensures in
    let j = judged c.requires l.made l.invariant.2 some c.try_mark-tried.result n c.try_mark-tried.ensures in
    liftable c.requires l.made l.invariant.2 some c.try_mark-tried.result j
    (elim c.if-tried-2.branch [
      | then-tried-2 w ↦ w.placed-is ∙ sym (pick_true _ _ w.if-tried-2.true)
      | else-tried-2 w ↦ w.placed-is ∙ sym (pick-false _ _ w.if-tried-2.false)
    ])

pub overflow_add-made : goal.overflow_add-made
overflow_add-made c = omega (arith, c.requires.startable.room)

pub loop-trail-preserved : goal.loop-trail-preserved
loop-trail-preserved c =
    let l = c.loop-trail in
    let w = c.requires in
    let goes = l.invariant.2 in
    let begun = c.loop-trail-test.true in
    let P = pattern_in c.args.tables.now.crossed.matrix in
    let R = rules_in c.args.search c.args.tables.now.crossed.matrix in
    let r = at c.args.search c.args.tables.now.crossed.matrix c.args.k l.made in
    let n = next w l.made goes begun c.from-l.ensures c.last-p.ensures in
    let j = judged w l.made goes begun c.try_mark-tried.result n c.try_mark-tried.ensures in
    let looked = ap (λ (x : ℕ). l.looks + x) j.2 in
    let full : c.from-full.result ≡ c.args.k = c.from-full.ensures in
    let first = c.unequal_caps-first.ensures ∙ sym (rules-first P _) in
    let more = one_more w.startable l.made (some w l.made goes begun) in (
      omega arith,
      tries_more w.startable l.made (some w l.made goes begun) l.invariant.1,
      elim c.if-tried.branch [
        | then-tried+then-len-full u ↦ let up = u.if-tried.true in
            goes_same more u.trail-is u.best-is u.count-is u.found-is u.kept-is
            (goes_grown R c.args.k goes _ looked (sym j.0 ∙ up) (lt-ltb (length r.trail) c.args.k (omega (arith, u.if-len-full.true, goes.packs.long)))
            (u.append-trail.ensures r.trail goes.packs (omega (arith, goes.packs.long, c.args.tables.now.made.ready.total, c.args.tables.now.made.ready.few, w.startable.within)) (omega arith))
            (subst (λ (ρ : List ℕ). Keeps P (marking P ρ) c.try_mark-tried.new.self) (pick_true r.trail (earlier r.trail) up) j.3))
        | else-tried u ↦ let packs = subst (λ (b : Bool). Packs u.advance-trail.result (advance b r.trail)) first (u.advance-trail.ensures r.trail goes.packs) in
            elim u.if-tried-2.branch [
              | then-tried-2 v ↦ let up = v.if-tried-2.true in
                  let holds = lifted w l.made goes begun c.try_mark-tried.result R.one_first j (v.placed-is ∙ sym (pick_true _ _ up)) packs u.saturating_sub.ensures u.lift.ensures in
                  let long : c.from-full.result ≤ l.trail.len =
                  elim u.else-tried.branch [ else-tried-via-then-tried+else-len-full h ↦ omega (arith, h.if-len-full.false) | else-tried-via-else-tried h ↦ clash up h.if-tried.false ] in
                  goes_same more u.trail-is (u.best-is ∙ v.best-is) (u.count-is ∙ v.count-is) (u.found-is ∙ v.found-is) u.kept-is
                  (goes_bettered R c.args.k goes _ looked _ _ (sym j.0 ∙ up) (le-ltb (length r.trail) c.args.k (omega (arith, goes.packs.long))) packs (v.unpacked-best.ensures r.trail goes.packs) (j.1 up) holds)
              | else-tried-2 v ↦ let down = v.if-tried-2.false in
                  let holds = lifted w l.made goes begun c.try_mark-tried.result R.one_first j (v.placed-is ∙ sym (pick-false _ _ down)) packs u.saturating_sub.ensures u.lift.ensures in
                  goes_same more u.trail-is (u.best-is ∙ v.best-is) (u.count-is ∙ v.count-is) (u.found-is ∙ v.found-is) u.kept-is
                  (goes_given_up R c.args.k goes _ looked (sym j.0 ∙ down) packs holds)
            ]
      ],
    )

pub overflow_add-s : goal.overflow_add-s
overflow_add-s c = omega (arith, c.requires.startable.room)

pub returns : goal.returns
returns c =
    let l = c.loop-trail in
    run_ends c.requires.startable l.made l.invariant.1 l.invariant.2 l.invariant.0
    (elim c.loop-trail-test.branch [
      | then-loop-trail-test+else-made-budget h ↦ and_fails_right _ (le-ltb l.made c.args.budget h.if-made-budget.false)
      | else-loop-trail-test h ↦ and_fails_left _ (ap not (eq-eqb l.trail.len 0 h.loop-trail-test.false))
    ])
    _ c.unpacked-s.ensures
