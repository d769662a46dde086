-- What a run answers, by the search after it or what refuses it.
-- Assumes nothing.
use Rattle.std.specs.Prelude.{Ok, Err}
use mathlib.Core.Bool.{true, false}
use mathlib.Core.List.{List}
use mathlib.Core.Path.{◌≡◌, refl, sym, ◌∙◌, ap}
use Prim.Native.Nat.{ℕ}
use Rattle.model.specs.declared.Ended.{Ended}
use Rattle.model.specs.declared.Ran.{Ran}
use Rattle.model.specs.declared.Refusal.{Refusal}
use Rattle.model.specs.declared.Search.{Search}
use Rattle.model.specs.declared.Word.{Word}
use Rattle.model.specs.declared.Word.TheVariants.{State}
use Rattle.model.specs.Refusal.{Verdict, accepted, refused, ◌then◌}
use Rattle.model.specs.Pattern.{pattern_of}
use Rattle.model.specs.Walk.{rules_of}
use Rattle.model.specs.State.{caps_in, record_of, search_of, state_fine}
use Rattle.model.specs.Calls.{list_verdict, run_verdict, ended, ran_record, ran_after, run_call}
use Rattle.model.proofs.Theorems.Checks.{then_accepted, refused_by, answered_by}
use Rattle.state.proofs.Checks.{state_then, then-later, then_unfit, then_unlisted}
use Rattle.running.specs.Budget.{budget_by}

module _ (m n nonzeros : ℕ) (list : List ℕ) (budget : ℕ) (s : Search) where
  -- the checks of a run
  run_checks : run_verdict (record_of s) m n nonzeros list budget ≡ state_then s m n nonzeros list (budget_by s.tries budget)
  unfolding run_verdict state_then record_of budget_by
  run_checks = refl

  -- a run of a state that is not refused
  pub run_ready :
      (a : Ran) → list_verdict m n nonzeros list ≡ accepted →
      state_fine (rules_of (pattern_of m n nonzeros list) (caps_in s)) m n nonzeros (record_of s) ≡ true →
      a ≡ ran_after (budget_by s.tries budget) s (pattern_of m n nonzeros list) budget →
      a ≡ run_call s m n nonzeros list budget
  unfolding run_call
  run_ready a listed fine ran =
      ran
      ∙ ap
      (λ (v : Verdict). ran_after v s (pattern_of m n nonzeros list) budget)
      (sym (run_checks ∙ then-later s m n nonzeros list (budget_by s.tries budget) listed fine))

  -- the state is refused
  pub run_unfit :
      list_verdict m n nonzeros list ≡ accepted →
      state_fine (rules_of (pattern_of m n nonzeros list) (caps_in s)) m n nonzeros (record_of s) ≡ false →
      record { answer = refused State 0; search = s } ≡ run_call s m n nonzeros list budget
  unfolding run_call ran_after
  run_unfit listed unfit =
      ap
      (λ (v : Verdict). ran_after v s (pattern_of m n nonzeros list) budget)
      (sym (run_checks ∙ then_unfit s m n nonzeros list (budget_by s.tries budget) false _ listed (sym unfit) refl))

  -- the list is refused
  pub run_unlisted :
      (word : Word) (place : ℕ) → list_verdict m n nonzeros list ≡ refused word place →
      record { answer = refused word place; search = s } ≡ run_call s m n nonzeros list budget
  unfolding run_call ran_after
  run_unlisted word place refused =
      ap
      (λ (v : Verdict). ran_after v s (pattern_of m n nonzeros list) budget)
      (sym (run_checks ∙ then_unlisted s m n nonzeros list (budget_by s.tries budget) _ refused))

  -- the search after it
  abbrev pub After : Search
  After = search_of (ran_record (record_of s) (pattern_of m n nonzeros list) budget)

  -- one of its checks refuses, or none
  pub check_refused :
      (refusal : Refusal) → state_then s m n nonzeros list (budget_by s.tries budget) ≡ Err refusal →
      Err refusal ≡ run_verdict (record_of s) m n nonzeros list budget then Ok After
  check_refused refusal refused = sym (ap (λ (v : Verdict). v then Ok After) (run_checks ∙ refused))

  pub check_passed :
      (after : Search) → state_then s m n nonzeros list (budget_by s.tries budget) ≡ accepted → after ≡ After →
      Ok after ≡ run_verdict (record_of s) m n nonzeros list budget then Ok After
  check_passed after passed is = ap Ok is ∙ sym (then_accepted _ (run_checks ∙ passed))

  -- what it answers then
  pub run_made :
      (after : Search) (answer : Ended) →
      Ok after ≡ run_verdict (record_of s) m n nonzeros list budget then Ok After →
      answer ≡ ended after.complete after.looks →
      record { answer = Ok answer; search = after } ≡ run_call s m n nonzeros list budget
  unfolding run_call ran_after search_of
  run_made after answer made e =
      let w = answered_by _ _ (sym made) in
      ap (λ (a : Ended). record { answer = Ok a; search = after }) e
      ∙ ap (λ (t : Search). record { answer = Ok (ended t.complete t.looks); search = t }) (sym w.1)
      ∙ ap (λ (v : Verdict). ran_after v s (pattern_of m n nonzeros list) budget) (sym w.0)

  -- what refuses it
  pub run_refused :
      (refusal : Refusal) →
      Err refusal ≡ run_verdict (record_of s) m n nonzeros list budget then Ok After →
      record { answer = Err refusal; search = s } ≡ run_call s m n nonzeros list budget
  unfolding run_call ran_after
  run_refused refusal made = ap (λ (v : Verdict). ran_after v s (pattern_of m n nonzeros list) budget) (sym (refused_by _ _ (sym made)))
