-- Laws of a run by the verdict on its budget.
-- Assumes nothing.
use mathlib.Core.Bool.{Bool, true, false}
use mathlib.Core.List.{List, [], ◌∷◌}
use mathlib.Core.Path.{◌≡◌, refl, sym, ◌∙◌, ap, subst}
use Prim.Native.Nat.{ℕ, ◌+◌, ◌*◌, ◌≤◌, ◌<◌}
use lib.Dec.{ltb, leb}
use native.Mathlib.Omega.{arith}
use borrow.Author.Tests.{lt-ltb, le-ltb, ltb-true, ltb-false, leb-true, eqb-true, not-true}
use Rattle.counting.specs.Tests.{◌or◌}
use Rattle.counting.proofs.Joined.{by_test, clash, and_left, and_right, or_left, or_fails, or_fails_right}
use Rattle.std.specs.Prelude.{Ok}
use Rattle.model.specs.Refusal.{Verdict, accepted, refused, refuse, ◌then◌}
use Rattle.model.specs.declared.Word.TheVariants.{Budget}
use Rattle.model.specs.declared.Ended.{Ended}
use Rattle.model.specs.declared.Search.{Search}
use lib.ListN.{length, get_or}
use Rattle.model.specs.Limits.{budget_limit, tries_limit}
use Rattle.model.specs.Walk.{Record, Rules, rules_of, is_empty, walk, floor}
use Rattle.model.specs.declared.Caps.{Caps}
use Rattle.model.specs.State.{marks_in, caps_in, record_of, search_of, counts_fine, trail_fine, best_fine, state_fine}
use Rattle.model.specs.Calls.{ended, ran_record, ran_after}
use Rattle.model.proofs.Theorems.Checks.{refuse-not, refuse_so, refuse_no, refuse_either, then_accepted, then_refused, then_assoc}
use Rattle.pattern.specs.declared.matrix.Matrix.{Matrix}
use Rattle.pattern.specs.Matrix.{pattern_in}
use Rattle.state.specs.Holding.{normal_of}
use Rattle.state.specs.Ready.{ReadyIn, Fits}
use Rattle.state.proofs.Accepting.{fine_normal, fits_back, ready_fits, fine_looked}
use Rattle.model.proofs.Walk.Legal.{Legal, legal_empty}
use Rattle.model.proofs.Order.RulesSound.{rules_sound}
use Rattle.model.proofs.Order.SplitMarks.{stack-length}
use Rattle.model.proofs.Theorems.OfList.{rules_k}
use Rattle.running.specs.declared.tables.Ranked.{Ranked}
use Rattle.running.specs.Trying.{walk_to}
use Rattle.running.proofs.Walked.{Going}
use Rattle.running.proofs.Exact.{walk_exact}
use Rattle.running.proofs.Floored.{floor-found}
use Rattle.running.specs.Run.{rules_in, Startable, Tryable}
use Rattle.running.specs.Budget.{budget_by}

-- tries over the limit by themselves are over it with a budget
tries_first :
    (tries budget : ℕ) →
    refuse (ltb tries_limit (tries + budget)) Budget 0
    ≡ refuse (ltb tries_limit tries) Budget 0 then refuse (ltb tries_limit (tries + budget)) Budget 0
tries_first tries budget =
    by_test
    (ltb tries_limit tries)
    (λ over. refuse_so Budget 0 (lt-ltb tries_limit (tries + budget) (omega (arith, ltb-true tries_limit tries over))) ∙ sym (then_refused _ (refuse_so Budget 0 over)))
    (λ under. sym (then_accepted _ (refuse_no Budget 0 under)))

-- the cases of 13
pub budget_each :
    (tries budget : ℕ) →
    budget_by tries budget
    ≡ refuse (ltb budget_limit budget) Budget 0
    then refuse (ltb tries_limit tries) Budget 0
    then refuse (ltb tries_limit (tries + budget)) Budget 0
unfolding budget_by
budget_each tries budget =
    refuse_either _ _ Budget 0
    ∙ ap (λ (v : Verdict). refuse (ltb budget_limit budget) Budget 0 then v) (tries_first tries budget)
    ∙ sym (then_assoc (refuse (ltb budget_limit budget) Budget 0) (refuse (ltb tries_limit tries) Budget 0) (refuse (ltb tries_limit (tries + budget)) Budget 0))

pub budget_over : (tries budget : ℕ) → budget_limit < budget → refused Budget 0 ≡ budget_by tries budget
unfolding budget_by
budget_over tries budget h = sym (refuse_so Budget 0 (or_left (ltb tries_limit (tries + budget)) (lt-ltb budget_limit budget h)))

pub budget_taken : (tries budget : ℕ) → budget ≤ budget_limit → tries + budget ≤ tries_limit → accepted ≡ budget_by tries budget
unfolding budget_by
budget_taken tries budget h g = sym (refuse_no Budget 0 (or_fails (le-ltb budget_limit budget h) (le-ltb tries_limit (tries + budget) g)))

-- an accepted budget is within the limit on tries
pub budget_within : (tries budget : ℕ) → budget_by tries budget ≡ accepted → tries + budget ≤ tries_limit
unfolding budget_by
budget_within tries budget h =
    ltb-false
    tries_limit
    (tries + budget)
    (or_fails_right (ltb budget_limit budget) (ltb tries_limit (tries + budget)) (refuse-not (ltb budget_limit budget or ltb tries_limit (tries + budget)) Budget 0 h))

-- a cleared search has the same tries and caps
pub normal_tries : (s t : Search) → t ≡ normal_of s → t.tries ≡ s.tries
unfolding normal_of
normal_tries s t e = ap (λ (x : Search). x.tries) e

normal_caps : (s t : Search) → t ≡ normal_of s → caps_in t ≡ caps_in s
unfolding normal_of
normal_caps s t e = ap caps_in e

record_caps : (s : Search) → (record_of s).caps ≡ caps_in s
unfolding record_of
record_caps s = refl

-- a state that is not refused has the list's sizes
pub state_sizes :
    (R : Rules) (m n nonzeros : ℕ) (r : Record) → state_fine R m n nonzeros r ≡ true →
    (r.m ≡ m) × (r.n ≡ n) × (r.nonzeros ≡ nonzeros)
unfolding state_fine
state_sizes R m n nonzeros r h =
    let three = and_left _ _ (and_left _ _ (and_left _ _ (and_left _ _ (and_left _ _ h)))) in
    let two = and_left _ _ three in
    (eqb-true r.m m (and_left _ _ two), eqb-true r.n n (and_right _ _ two), eqb-true r.nonzeros nonzeros (and_right _ _ three))

-- its trail is legal, and empty exactly if the search is complete
trail_going : (R : Rules) (complete : Bool) (τ : List ℕ) → trail_fine R complete τ ≡ true → Legal R τ × (complete ≡ is_empty τ)
unfolding trail_fine is_empty
trail_going R true [] h = (legal_empty R, refl)
trail_going R true (x ∷ τ) h = clash h refl
trail_going R false τ h =
    let four = and_left _ _ h in
    let three = and_left _ _ four in
    let two = and_left _ _ three in (
      record { within = leb-true _ _ (and_right _ _ two); marks = and_right _ _ three; allowed = and_right _ _ four; before = and_right _ _ h },
      sym (not-true _ (and_left _ _ two)),
    )

fine_going : (R : Rules) (m n nonzeros : ℕ) (r : Record) → state_fine R m n nonzeros r ≡ true → Going R r
unfolding state_fine
fine_going R m n nonzeros r h =
    let g = trail_going R r.complete r.trail (and_right _ _ (and_left _ _ h)) in
    record { legal = g.0; ended = g.1 }

-- its tries are in range
fine_tries : (R : Rules) (m n nonzeros : ℕ) (r : Record) → state_fine R m n nonzeros r ≡ true → r.tries ≤ tries_limit
unfolding state_fine counts_fine
fine_tries R m n nonzeros r h =
    leb-true
    r.tries
    tries_limit
    (and_left _ (leb r.looks (r.tries * m * nonzeros)) (and_right _ (counts_fine r.tries r.looks m nonzeros) (and_left _ (trail_fine R r.complete r.trail) (and_left _ (best_fine R r.best r.best_count r.complete) h))))

-- whether a search is one that a run of this matrix takes
abbrev pub fine_in : Search → Matrix → Bool
fine_in s x = state_fine (rules_in s x) x.m x.n x.nonzeros (record_of s)

module _
    {x : Matrix} {places rows : List ℕ} {full : ℕ} (ready : ReadyIn x places rows full) (s from : Search) (t : Tryable x s) (f : from ≡ normal_of s)
  where
    fits : Fits full (record_of s)
    fits = ready_fits x.m x.n x.nonzeros x.list.now places rows full s ready t.fine

    -- a cleared search is that of its record
    is_record : from ≡ search_of (record_of s)
    is_record = f ∙ fine_normal s full ready.few fits

    pub same_record_by : record_of from ≡ record_of s
    same_record_by = ap record_of is_record ∙ fits_back full (record_of s) ready.few fits

    pub same_rules_by : rules_in from x ≡ rules_in s x
    same_rules_by = ap (rules_of (pattern_in x)) (normal_caps s from f)

    fine_trail : Going (rules_in from x) (record_of from)
    fine_trail =
        subst
        (λ (R : Rules). Going R (record_of from))
        (sym same_rules_by)
        (subst (λ (r : Record). Going (rules_in s x) r) (sym same_record_by) (fine_going _ x.m x.n x.nonzeros (record_of s) t.fine))

    from-looked : from.looks ≤ from.tries * (x.m * x.nonzeros)
    unfolding normal_of record_of
    from-looked = subst (λ (q : Search). q.looks ≤ q.tries * (x.m * x.nonzeros)) (sym f) (fine_looked _ x.m x.n x.nonzeros (record_of s) t.fine).few

    -- and tries can be made on it
    pub from_readied_by :
        (k budget : ℕ) → k ≤ full → s.tries + budget ≤ tries_limit + budget_limit →
        Startable from x k budget
    unfolding record_of
    from_readied_by k budget few room =
        record {
          room = omega (arith, room, normal_tries s from f);
          held = is_record ∙ ap search_of (sym same_record_by);
          within = omega (arith, ready.total);
          legal = fine_trail.legal;
          ended = fine_trail.ended;
          looked = from-looked;
        }

    -- with k marks for a full trail they are the walk's
    walk-taken :
        (budget : ℕ) → walk_to (rules_in from x) full budget (record_of from) ≡ walk (rules_of (pattern_in x) (record_of s).caps) budget (record_of s)
    walk-taken budget =
        let P = pattern_in x in
        let R = rules_in s x in
        ap (λ (Q : Rules). walk_to Q full budget (record_of from)) same_rules_by
        ∙ ap (walk_to R full budget) same_record_by
        ∙ ap (λ (k : ℕ). walk_to R k budget (record_of s)) (ready.total ∙ sym (rules_k P (caps_in s)))
        ∙ walk_exact (rules_sound P (caps_in s) ready.listed.inside) budget (record_of s) (fine_going _ x.m x.n x.nonzeros (record_of s) t.fine)
        ∙ ap (λ (c : Caps). walk (rules_of P c) budget (record_of s)) (sym (record_caps s))

    -- the search after an accepted run
    pub run_walked_by :
        (budget : ℕ) (after : Search) → after ≡ search_of (walk_to (rules_in from x) full budget (record_of from)) →
        after ≡ search_of (ran_record (record_of s) (pattern_in x) budget)
    unfolding ran_record
    run_walked_by budget after walks = walks ∙ ap search_of (walk-taken budget)

    -- an accepted run
    pub run_taken_by :
        (budget : ℕ) (after : Search) (answer : Ended) (v : Verdict) → v ≡ budget_by s.tries budget → v ≡ accepted →
        after ≡ search_of (walk_to (rules_in from x) full budget (record_of from)) →
        answer ≡ ended after.complete after.looks →
        record { answer = Ok answer; search = after } ≡ ran_after (budget_by s.tries budget) s (pattern_in x) budget
    unfolding ran_after search_of
    run_taken_by budget after answer v e a walks d =
        ap (λ (q : Ended). record { answer = Ok q; search = after }) d
        ∙ ap (λ (q : Search). record { answer = Ok (ended q.complete q.looks); search = q }) (run_walked_by budget after walks)
        ∙ ap (λ (q : Verdict). ran_after q s (pattern_in x) budget) (sym a ∙ e)

    -- the trail of the search has at most k marks
    pub from_short_by : from.trail.len ≤ full
    unfolding record_of marks_in
    from_short_by =
        omega (
          arith,
          stack-length (λ i. get_or from.trail.marks i 0) from.trail.len,
          ap (λ (r : Record). length r.trail) same_record_by,
          fits.trail_fits,
        )

    -- with none for a full trail, and tries enough for every open marking, they find its floor
    pub floor_readied_by : (budget : ℕ) → budget ≤ budget_limit → Startable from x 0 budget
    unfolding record_of
    floor_readied_by budget b =
        from_readied_by 0 budget (omega arith) (omega (arith, fine_tries _ x.m x.n x.nonzeros (record_of s) t.fine))

    pub floor_taken_by :
        (budget : ℕ) → 2 * from.trail.len + 1 ≤ budget → (after : Search) →
        after ≡ search_of (walk_to (rules_in from x) 0 budget (record_of from)) →
        after.best_count ≡ floor (rules_in s x) (record_of s)
    unfolding search_of record_of marks_in
    floor_taken_by budget enough after e =
        ap (λ (q : Search). q.best_count) e
        ∙ floor-found
        (rules_in from x)
        budget
        (record_of from)
        fine_trail
        (omega (arith, stack-length (λ i. get_or from.trail.marks i 0) from.trail.len))
        ∙ ap (λ (R : Rules). floor R (record_of from)) same_rules_by
        ∙ ap (floor (rules_in s x)) same_record_by

-- the same of a pattern whose lines are ranked
module _ (ranked : Ranked) (s from : Search) (t : Tryable ranked.matrix s) (f : from ≡ normal_of s) where
  abbrev x : Matrix
  x = ranked.matrix

  pub same_record : record_of from ≡ record_of s
  same_record = same_record_by ranked.made.ready s from t f

  pub same_rules : rules_in from x ≡ rules_in s x
  same_rules = same_rules_by ranked.made.ready s from t f

  pub from_readied :
      (full budget : ℕ) → full ≤ ranked.full → s.tries + budget ≤ tries_limit + budget_limit →
      Startable from x full budget
  from_readied = from_readied_by ranked.made.ready s from t f

  pub run_walked :
      (budget : ℕ) (after : Search) → after ≡ search_of (walk_to (rules_in from x) ranked.full budget (record_of from)) →
      after ≡ search_of (ran_record (record_of s) (pattern_in x) budget)
  run_walked = run_walked_by ranked.made.ready s from t f

  pub run_taken :
      (budget : ℕ) (after : Search) (answer : Ended) (v : Verdict) → v ≡ budget_by s.tries budget → v ≡ accepted →
      after ≡ search_of (walk_to (rules_in from x) ranked.full budget (record_of from)) →
      answer ≡ ended after.complete after.looks →
      record { answer = Ok answer; search = after } ≡ ran_after (budget_by s.tries budget) s (pattern_in x) budget
  run_taken = run_taken_by ranked.made.ready s from t f

  pub from-short : from.trail.len ≤ ranked.full
  from-short = from_short_by ranked.made.ready s from t f

  pub floor_readied : (budget : ℕ) → budget ≤ budget_limit → Startable from x 0 budget
  floor_readied = floor_readied_by ranked.made.ready s from t f

  pub floor-taken :
      (budget : ℕ) → 2 * from.trail.len + 1 ≤ budget → (after : Search) →
      after ≡ search_of (walk_to (rules_in from x) 0 budget (record_of from)) →
      after.best_count ≡ floor (rules_in s x) (record_of s)
  floor-taken = floor_taken_by ranked.made.ready s from t f
