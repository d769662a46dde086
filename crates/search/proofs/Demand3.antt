-- Demand 3, undivided: the claim of specs/Demand.antt holds for every pattern, pair of caps and history.
-- Assumes nothing.
use mathlib.Core.Bool.{Bool, true, false}
use mathlib.Core.List.{List}
use mathlib.Core.Path.{◌≡◌, refl, sym, ◌∙◌, ap, subst}
use Prim.Native.Nat.{ℕ, ◌+◌, ◌≤◌}
use native.Mathlib.Omega.{arith}
use lib.Dec.{ltb}
use borrow.Author.Tests.{ltb-false}
use Rattle.counting.proofs.Joined.{or_fails_right}
use Rattle.std.specs.Prelude.{Result, Ok, Err}
use Rattle.model.specs.declared.Refusal.{Refusal}
use Rattle.model.specs.Refusal.{Verdict, accepted, refused}
use Rattle.model.specs.declared.Word.{Word}
use Rattle.model.specs.declared.Word.TheVariants.{Budget}
use Rattle.model.specs.declared.Caps.{Caps}
use Rattle.model.specs.declared.Search.{Search}
use Rattle.model.specs.declared.Ran.{Ran}
use Rattle.model.specs.declared.Ended.TheVariants as ends
use Rattle.model.specs.declared.Shown.{Shown}
use Rattle.model.specs.Limits.{budget_limit, tries_limit}
use Rattle.model.specs.Pattern.{Pattern, pattern_of, line_total}
use Rattle.model.specs.Walk.{Record, rules_of, fresh_of, walk, walked}
use Rattle.model.specs.State.{record_of, search_of}
use Rattle.model.specs.Calls.{open_verdict, run_verdict, open_call, ended, ran_record, ran_after}
use Rattle.model.proofs.Walk.Ending.{walk_counts, fresh_tries}
use Rattle.model.proofs.Theorems.Checks.{then-second, refuse-not, answered_by, verdict_back}
use Rattle.model.proofs.Theorems.Ends.{walked_adds}
use Rattle.model.proofs.Theorems.Replies.{open_replies_lem}
use Rattle.search.specs.History.{accepted_budget, Handed, run_of, show_of, parts_of, run_table, show_table, History, opened, ran, showed}
use Rattle.search.specs.Demand.{Demand, RunAnswered, ShowAnswered, Throughout, Demand3}
use Rattle.search.proofs.RunTold.{run_tells}
use Rattle.search.proofs.ShowTold.{show_tells}
use Rattle.search.proofs.Points.{walked-back, walked_caps, walked-runs, show-room, demand_at}
use Rattle.search.proofs.Wanting.{accepts_exactly, refuses_exactly}

-- an accepted run's budget counts, and a refused one's does not
pub ended_budget : (done : Bool) (looks budget : ℕ) → accepted_budget (Ok (ended done looks)) budget ≡ budget
unfolding accepted_budget
ended_budget done looks budget = refl

refused_budget : (word : Word) (place budget : ℕ) → accepted_budget (refused word place) budget ≡ 0
unfolding accepted_budget
refused_budget word place budget = refl

module _ (m n nonzeros : ℕ) (list : List ℕ) (caps : Caps) (opening : open_verdict m n nonzeros list caps ≡ accepted) where
  -- the pattern
  abbrev P : Pattern
  P = pattern_of m n nonzeros list

  -- the search is the walk's, and its tries are within the limit
  record Kept (s : Search) (total : ℕ) : Type 0 where
    same : s ≡ search_of (walked P caps total)
    limit : (walked P caps total).tries ≤ tries_limit

  kept_total : {s : Search} {a b : ℕ} → a ≡ b → Kept s a → Kept s b
  kept_total {s} e k = subst (λ (t : ℕ). Kept s t) e k

  -- an accepted run is within the limit on tries
  run_limit :
      (handed : Handed m n nonzeros list) (total budget : ℕ) → run_table (walked P caps total) handed budget ≡ accepted →
      (walked P caps total).tries + budget ≤ tries_limit
  unfolding run_verdict
  run_limit handed total budget h =
      ltb-false
      tries_limit
      ((walked P caps total).tries + budget)
      (or_fails_right
      (ltb budget_limit budget)
      (ltb tries_limit ((walked P caps total).tries + budget))
      (refuse-not _ Budget 0 (then-second _ _ h)))

  walked_more : (total budget : ℕ) → (walked P caps (total + budget)).tries ≤ (walked P caps total).tries + budget
  walked_more total budget =
      omega (
        arith,
        ap (λ (r : Record). r.tries) (walked_adds P caps total budget),
        walk_counts (rules_of P caps) budget (walked P caps total),
      )

  -- a run of the walk's search
  search_runs : (s : Search) (total budget : ℕ) → Kept s total → ran_record (record_of s) P budget ≡ walked P caps (total + budget)
  search_runs s total budget k =
      ap (λ (r : Record). ran_record r P budget) (ap record_of k.same ∙ walked-back m n nonzeros list caps opening total) ∙ walked-runs m n nonzeros list caps opening total budget

  -- the search after a run, by the run's verdict
  run_keeps :
      (handed : Handed m n nonzeros list) (s : Search) (total budget : ℕ) → Kept s total → (v : Verdict) →
      run_table (walked P caps total) handed budget ≡ v →
      Kept (ran_after v s P budget).search (total + accepted_budget (ran_after v s P budget).answer budget)
  unfolding ran_after
  run_keeps handed s total budget k (Ok _) e =
      kept_total
      (ap (total +◌) (sym (ended_budget (ran_record (record_of s) P budget).complete (ran_record (record_of s) P budget).looks budget)))
      (record {
        same = ap search_of (search_runs s total budget k);
        limit = omega (arith, walked_more total budget, run_limit handed total budget e);
      })
  run_keeps handed s total budget k (Err refusal) e =
      kept_total (sym (ap (total +◌) (refused_budget refusal.word refusal.place budget) ∙ plus_none total)) k
    where
      plus_none : (t : ℕ) → t + 0 ≡ t
      plus_none t = omega arith

  demanded : {s : Search} {total : ℕ} → Kept s total → Demand m n nonzeros list caps s total
  demanded {s} {total} k = demand_at m n nonzeros list caps opening s total k.same k.limit

  -- a run of a history: what it leaves, and what it answered
  module _
      (s : Search) (total : ℕ) (k : Kept s total) (handed : Handed m n nonzeros list) (budget : ℕ) (answer : Ran)
      (called : answer ≡ run_of s handed budget) where
    ran-is : answer ≡ ran_after (run_table (walked P caps total) handed budget) s P budget
    ran-is = called ∙ (demanded k).run_is handed budget

    ran_keeps : Kept answer.search (total + accepted_budget answer.answer budget)
    ran_keeps =
        subst
        (λ (a : Ran). Kept a.search (total + accepted_budget a.answer budget))
        (sym ran-is)
        (run_keeps handed s total budget k (run_table (walked P caps total) handed budget) refl)

    ran_answered : RunAnswered (run_table (walked P caps total) handed budget) (walked P caps (total + budget)) s answer
    ran_answered =
        run_tells (run_table (walked P caps total) handed budget) s P budget (walked P caps (total + budget)) answer ran-is (search_runs s total budget k)

  -- a showing of a history: what it answered
  module _
      (s : Search) (total : ℕ) (k : Kept s total) (handed : Handed m n nonzeros list) (parts after : List ℕ) (answer : Result Shown Refusal)
      (called : answer ≡ show_of s handed parts)
      (written : after ≡ parts_of s handed parts) where
    showed_answered : ShowAnswered P caps (walked P caps total) (show_table (walked P caps total) handed parts) parts answer after
    showed_answered =
        let d = demanded k in
        show_tells
        P
        caps
        (walked P caps total)
        d.shown_meets
        d.floor_below
        d.complete_closed
        parts
        (walked_caps m n nonzeros list caps opening total)
        (show_table (walked P caps total) handed parts)
        (show-room m n nonzeros list caps opening handed total parts)
        answer
        after
        (called ∙ d.show_is handed parts)
        (written ∙ d.parts_are handed parts)

  -- it has made no tries
  pub opened-none : (walked P caps 0).tries ≡ 0
  unfolding walked walk fresh_of
  opened-none = fresh_tries P.m P.n P.size caps (line_total P)

  opened_keeps : (s : Search) → open_call m n nonzeros list caps ≡ Ok s → Kept s 0
  unfolding open_call walked walk
  opened_keeps s called =
      record {
        same = sym (answered_by _ _ called).1;
        limit = omega (arith, opened-none);
      }

  -- the search at every point of a history
  history_keeps :
      {s : Search} {total : ℕ} → History m n nonzeros list caps s total → Kept s total
  history_keeps (opened s called) = opened_keeps s called
  history_keeps (ran {s} {total} h handed budget answer called) =
      ran_keeps s total (history_keeps h) handed budget answer called
  history_keeps (showed h handed parts after answer called written) = history_keeps h

  -- demand 3 throughout a history
  throughout_accepted : {s : Search} {total : ℕ} (h : History m n nonzeros list caps s total) → Throughout h
  throughout_accepted (opened s called) = demanded (opened_keeps s called)
  throughout_accepted (ran {s} {total} h handed budget answer called) =
      let k = history_keeps h in (
        throughout_accepted h,
        ran_answered s total k handed budget answer called,
        demanded (ran_keeps s total k handed budget answer called),
      )
  throughout_accepted (showed {s} {total} h handed parts after answer called written) =
      let k = history_keeps h in (
        throughout_accepted h,
        showed_answered s total k handed parts after answer called written,
        demanded k,
      )

-- a history begins with an accepted opening
history_accepted :
    {m n nonzeros : ℕ} {list : List ℕ} {caps : Caps} {s : Search} {total : ℕ} →
    History m n nonzeros list caps s total → open_verdict m n nonzeros list caps ≡ accepted
unfolding open_call
history_accepted (opened s called) = (answered_by _ _ called).0
history_accepted (ran h handed budget answer called) = history_accepted h
history_accepted (showed h handed parts after answer called written) = history_accepted h

-- demand 3
pub demand_3 : (m n nonzeros : ℕ) (list : List ℕ) (caps : Caps) → Demand3 m n nonzeros list caps
unfolding open_call
demand_3 m n nonzeros list caps =
    record {
      throughout = λ h. throughout_accepted m n nonzeros list caps (history_accepted h) h;
      opens = verdict_back _ _;
      opens_reply = open_replies_lem m n nonzeros list caps;
      accepts = rw (verdict_back (open_verdict m n nonzeros list caps) (search_of (fresh_of (pattern_of m n nonzeros list) caps))) (accepts_exactly m n nonzeros list caps);
      refuses = rw (verdict_back (open_verdict m n nonzeros list caps) (search_of (fresh_of (pattern_of m n nonzeros list) caps))) (refuses_exactly m n nonzeros list caps);
    }
