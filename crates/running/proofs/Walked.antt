-- The records in the course of a run, from a search that is not refused.
-- Assumes nothing.
use mathlib.Core.Bool.{Bool, true, false, not}
use mathlib.Core.List.{List, [], ◌∷◌}
use mathlib.Core.Logic.{◌⊎◌, inl, inr, ⊎_elim}
use mathlib.Core.Path.{◌≡◌, refl, sym, ◌∙◌, ap}
use Prim.Native.Nat.{ℕ, zero, suc, ◌+◌, ◌-◌, ◌*◌, ◌^◌, ◌≤◌, ◌<◌}
use native.Mathlib.Nat.{add-zero, add-suc, mul_assoc, add-mul, one-mul, mul-le-mul}
use native.Mathlib.Numerals.{add-one}
use native.Mathlib.Omega.{arith}
use lib.Dec.{eqb, ltb}
use lib.ListN.{length}
use borrow.Author.Tests.{eq-eqb, ne_eqb, ltb-false, not-false}
use Rattle.counting.specs.Tests.{◌and◌}
use Rattle.counting.proofs.Joined.{no_way, and_left, and_cases}
use Rattle.trail.specs.Trail.{mark_room}
use Rattle.trail.specs.declared.Trail.{Trail}
use Rattle.model.specs.declared.Caps.{Caps}
use Rattle.model.specs.declared.Search.{Search}
use Rattle.model.specs.Limits.{budget_limit, tries_limit}
use Rattle.model.specs.Pattern.{pattern_of, line_total}
use Rattle.model.specs.Marking.{marking}
use Rattle.model.specs.Walk.{Record, Rules, is_empty, tried, looks_at, stands}
use Rattle.model.specs.State.{are_marks, trail_of, caps_in, record_of, search_of}
use Rattle.model.proofs.Walk.Legal.{Legal, legal_longer, advance_legal}
use Rattle.model.proofs.Walk.Looked.{Looked, LooksMost, try_looks}
use Rattle.model.proofs.Theorems.Ends.{rules-looks}
use Rattle.model.proofs.Theorems.OfList.{rules_k}
use Rattle.packing.specs.declared.PackedTrail.{PackedTrail}
use Rattle.packing.specs.Packed.{earlier, Packs}
use Rattle.pattern.specs.Matrix.{pattern_in}
use Rattle.running.specs.declared.kept.Kept.{Kept}
use Rattle.running.specs.declared.tables.Tables.{Tables}
use Rattle.pattern.specs.declared.matrix.Matrix.{Matrix}
use Rattle.bound.specs.Evaluated.{Listed}
use Rattle.running.specs.Kept.{Keeps}
use Rattle.running.specs.Run.{Goes, rules_in, Startable}
use Rattle.running.specs.Trying.{bettered, try_to, step_to, walk_to}
use Rattle.running.proofs.Tries.{try_keeps, step_stays, step_tries, walk_keeps, try_counts, walk_same}

-- a record with a legal trail, which is empty exactly if the search is complete
pub record Going (R : Rules) (r : Record) : Type 0 where
  pub legal : Legal R r.trail
  pub ended : r.complete ≡ is_empty r.trail

-- a try keeps it so, if no more than k marks are taken for a full trail
pub try_going : (R : Rules) (full : ℕ) (r : Record) → full ≤ R.k → Going R r → Going R (try_to R full r)
unfolding tried bettered stands
try_going R full r few g =
    try_keeps
    R
    full
    r
    (λ s. Going R s)
    (λ up room. record { legal = legal_longer g.legal (and_left _ _ up) (omega arith); ended = refl })
    (λ up long. record { legal = advance_legal _ g.legal; ended = refl })
    (λ down. record { legal = advance_legal _ g.legal; ended = refl })

pub walk_going : (R : Rules) (full n : ℕ) (r : Record) → full ≤ R.k → Going R r → Going R (walk_to R full n r)
walk_going R full n r few g = walk_keeps R full (λ s. Going R s) (λ s h. try_going R full s few h) n r g

-- a try adds its looks
looks-more :
    (R : Rules) {most : ℕ} → LooksMost R most → (r : Record) → Looked most r → r.looks + looks_at R r.trail ≤ (r.tries + 1) * most
looks-more R {most} h r l = omega (arith, l.few, try_looks R h r.trail, add-mul r.tries 1 most, one-mul most)

walk-looked : (R : Rules) {most : ℕ} → LooksMost R most → (full n : ℕ) (r : Record) → Looked most r → Looked most (walk_to R full n r)
unfolding tried bettered
walk-looked R {most} h full n r l =
    walk_keeps
    R
    full
    (λ s. Looked most s)
    (λ s k. try_keeps R full s (λ t. Looked most t)
    (λ up room. record { few = looks-more R h s k })
    (λ up long. record { few = looks-more R h s k })
    (λ down. record { few = looks-more R h s k }))
    n
    r
    l

-- one try more of a search that is not complete
walk_more :
    (R : Rules) (full i : ℕ) (r : Record) → (walk_to R full i r).complete ≡ false → try_to R full (walk_to R full i r) ≡ walk_to R full (i + 1) r
unfolding walk_to
walk_more R full i r going = sym (ap (λ (j : ℕ). walk_to R full j r) (add-one i) ∙ step_tries R full (walk_to R full i r) going)

-- none on one that is
walk-stays :
    (R : Rules) (full i d : ℕ) (r : Record) → (walk_to R full i r).complete ≡ true → walk_to R full (i + d) r ≡ walk_to R full i r
unfolding walk_to
walk-stays R full i zero r done = rw add-zero refl
walk-stays R full i (suc d) r done =
    rw add-suc (ap (step_to R full) (walk-stays R full i d r done) ∙ step_stays R full (walk_to R full i r) done)

-- so many tries made, or the search complete
walk-done :
    (R : Rules) (full i budget : ℕ) (r : Record) → i ≤ budget → (budget ≤ i) ⊎ ((walk_to R full i r).complete ≡ true) →
    walk_to R full i r ≡ walk_to R full budget r
walk-done R full i budget r b (inl h) =
    let e : i ≡ budget = omega arith in
    ap (λ (j : ℕ). walk_to R full j r) e
walk-done R full i budget r b (inr done) =
    let e : budget ≡ i + (budget - i) = omega arith in
    sym (ap (λ (j : ℕ). walk_to R full j r) e ∙ walk-stays R full i (budget - i) r done)

-- a marking without marks has length 0, and no other
pub none_empty : (τ : List ℕ) (len : ℕ) → len ≡ length τ → eqb len 0 ≡ is_empty τ
unfolding is_empty
none_empty [] len e = eq-eqb len 0 e
none_empty (x ∷ τ) len e = ne_eqb len 0 (λ d. no_way (omega arith))

-- a search of these figures and markings
abbrev pub ending : Search → ℕ → ℕ → ℕ → Bool → Trail → Bool → Trail → Search
ending s tries looks count found best complete trail =
    record {
      m = s.m;
      n = s.n;
      nonzeros = s.nonzeros;
      cap0 = s.cap0;
      cap1 = s.cap1;
      tries = tries;
      looks = looks;
      best_count = count;
      found = found;
      best = best;
      complete = complete;
      trail = trail;
    }

module _ {s : Search} {x : Matrix} {k budget : ℕ} (w : Startable s x k budget) where
  -- the walk after so many tries has a legal trail
  pub going_at : (i : ℕ) → Going (rules_in s x) (walk_to (rules_in s x) k i (record_of s))
  unfolding record_of
  going_at i =
      walk_going
      (rules_in s x)
      k
      i
      (record_of s)
      (omega (arith, w.within, rules_k (pattern_in x) (caps_in s)))
      (record { legal = w.legal; ended = w.ended })

  -- before the first try
  pub goes_start_by :
      line_total (pattern_in x) ≤ mark_room → {trail : PackedTrail} {kept : Kept} →
      ((τ : List ℕ) → length τ ≤ mark_room → are_marks τ ≡ true → s.trail ≡ trail_of τ → Packs trail τ) →
      Keeps (pattern_in x) (marking (pattern_in x) (earlier (record_of s).trail)) kept →
      Goes (pattern_in x) (walk_to (rules_in s x) k 0 (record_of s)) trail s.best s.best_count s.found s.looks kept
  unfolding walk_to record_of search_of
  goes_start_by few packs holds =
      record {
        packs = packs (record_of s).trail (omega (arith, w.legal.within, rules_k (pattern_in x) (caps_in s), few)) w.legal.marks (ap (λ (q : Search). q.trail) w.held);
        best_is = ap (λ (q : Search). q.best) w.held;
        count_is = refl;
        found_is = ap (λ (q : Search). q.found) w.held;
        looks_is = refl;
        holds = holds;
      }

  -- one try more
  pub one_more :
      (i : ℕ) → is_empty (walk_to (rules_in s x) k i (record_of s)).trail ≡ false →
      try_to (rules_in s x) k (walk_to (rules_in s x) k i (record_of s)) ≡ walk_to (rules_in s x) k (i + 1) (record_of s)
  one_more i some = walk_more (rules_in s x) k i (record_of s) ((going_at i).ended ∙ some)

  pub tries_more :
      (i : ℕ) → is_empty (walk_to (rules_in s x) k i (record_of s)).trail ≡ false →
      (walk_to (rules_in s x) k i (record_of s)).tries ≡ s.tries + i →
      (walk_to (rules_in s x) k (i + 1) (record_of s)).tries ≡ s.tries + (i + 1)
  tries_more i some e =
      omega (
        arith,
        try_counts (rules_in s x) k (walk_to (rules_in s x) k i (record_of s)),
        ap (λ (r : Record). r.tries) (one_more i some),
      )

  -- there is room for its looks
  pub looks_room_by :
      {rows : List ℕ} → Listed x.m x.n x.nonzeros x.list.now rows → (i a b : ℕ) → i < budget → (walk_to (rules_in s x) k i (record_of s)).tries ≡ s.tries + i →
      a ≡ (walk_to (rules_in s x) k i (record_of s)).looks → b ≡ looks_at (rules_in s x) (walk_to (rules_in s x) k i (record_of s)).trail →
      a + b < 2 ^ 64
  unfolding record_of pattern_of
  looks_room_by listed i a b few made ea eb =
      let R = rules_in s x in
      let r = walk_to R k i (record_of s) in
      let most = rules-looks (pattern_in x) (caps_in s) listed.inside in
      let room : r.tries + 1 ≤ tries_limit + budget_limit = omega (arith, w.room) in
      omega (
        arith,
        looks-more R most r (walk-looked R most k i (record_of s) (record { few = w.looked })),
        mul_assoc (r.tries + 1) x.m x.nonzeros,
        mul-le-mul (mul-le-mul room listed.rows_small) listed.small,
      )

  -- the search after the run
  pub run_ends :
      (i : ℕ) {trail : PackedTrail} {best : Trail} {count : ℕ} {found : Bool} {looks : ℕ} {kept : Kept} →
      (walk_to (rules_in s x) k i (record_of s)).tries ≡ s.tries + i →
      Goes (pattern_in x) (walk_to (rules_in s x) k i (record_of s)) trail best count found looks kept →
      i ≤ budget → not (eqb trail.len 0) and ltb i budget ≡ false →
      (last : Trail) → ((τ : List ℕ) → Packs trail τ → last ≡ trail_of τ) →
      ending s (s.tries + i) looks count found best (eqb trail.len 0) last ≡ search_of (walk_to (rules_in s x) k budget (record_of s))
  unfolding search_of record_of
  run_ends i {trail} {best} {count} {found} {looks} made g b stop last unpacks =
      let R = rules_in s x in
      let r = walk_to R k i (record_of s) in
      let e = none_empty r.trail trail.len g.packs.long in
      let same = walk_same R k i (record_of s) in
      (λ j. record {
        m = sym same.rows j;
        n = sym same.columns j;
        nonzeros = sym same.size j;
        cap0 = ap (λ (c : Caps). c.cap0) (sym same.caps) j;
        cap1 = ap (λ (c : Caps). c.cap1) (sym same.caps) j;
        tries = sym made j;
        looks = g.looks_is j;
        best_count = g.count_is j;
        found = g.found_is j;
        best = g.best_is j;
        complete = (e ∙ sym (going_at i).ended) j;
        trail = unpacks r.trail g.packs j;
      })
      ∙ ap
      search_of
      (walk-done
      R
      k
      i
      budget
      (record_of s)
      b
      (⊎_elim
      (λ done. inr ((going_at i).ended ∙ sym e ∙ not-false (eqb trail.len 0) done))
      (λ spent. inl (ltb-false i budget spent))
      (and_cases (not (eqb trail.len 0)) (ltb i budget) stop)))

-- the first try and the room for looks again, of the tables of a pattern, which are those of an accepted list
module _ (t : Tables) {s : Search} {k budget : ℕ} (w : Startable s t.crossed.matrix k budget) where
  abbrev x : Matrix
  x = t.crossed.matrix

  pub goes_start :
      {trail : PackedTrail} {kept : Kept} →
      ((τ : List ℕ) → length τ ≤ mark_room → are_marks τ ≡ true → s.trail ≡ trail_of τ → Packs trail τ) →
      Keeps (pattern_in x) (marking (pattern_in x) (earlier (record_of s).trail)) kept →
      Goes (pattern_in x) (walk_to (rules_in s x) k 0 (record_of s)) trail s.best s.best_count s.found s.looks kept
  goes_start packs holds = goes_start_by w (omega (arith, t.made.ready.total, t.made.ready.few)) packs holds

  pub looks-room :
      (i a b : ℕ) → i < budget → (walk_to (rules_in s x) k i (record_of s)).tries ≡ s.tries + i →
      a ≡ (walk_to (rules_in s x) k i (record_of s)).looks → b ≡ looks_at (rules_in s x) (walk_to (rules_in s x) k i (record_of s)).trail →
      a + b < 2 ^ 64
  looks-room i a b few made ea eb = looks_room_by w t.made.ready.listed i a b few made ea eb
