-- What a run answered, read off the equation that it meets, by the table's verdict.
-- Assumes nothing.
use Rattle.std.specs.Prelude.{Ok, Err}
use mathlib.Core.Bool.{Bool, true, false}
use mathlib.Core.Path.{◌≡◌, refl, sym, ap, subst}
use Prim.Native.Nat.{ℕ}
use Rattle.counting.proofs.Joined.{never}
use Rattle.model.specs.Refusal.{Verdict, accepted, refused}
use Rattle.model.specs.declared.Search.{Search}
use Rattle.model.specs.declared.Ran.{Ran}
use Rattle.model.specs.declared.Ended.TheVariants as ends
use Rattle.model.specs.Pattern.{Pattern}
use Rattle.model.specs.Walk.{Record}
use Rattle.model.specs.State.{record_of}
use Rattle.model.specs.Calls.{ended, ran_record, ran_after}
use Rattle.model.proofs.Theorems.Replies.{run_by_verdict}
use Rattle.search.specs.Demand.{RunAnswered}

-- a run that ended says whether it is complete, and its looks
ended_complete : (done : Bool) (looks told : ℕ) → ended done looks ≡ ends.Complete told → (done ≡ true) × (looks ≡ told)
unfolding ended
ended_complete true looks told e = (refl, cc)
ended_complete false looks told e = never (cc)

ended_stopped : (done : Bool) (looks told : ℕ) → ended done looks ≡ ends.Stopped told → (done ≡ false) × (looks ≡ told)
unfolding ended
ended_stopped true looks told e = never (cc)
ended_stopped false looks told e = (refl, cc)

complete_ended : (done : Bool) (looks told : ℕ) → done ≡ true → looks ≡ told → ended done looks ≡ ends.Complete told
unfolding ended
complete_ended done looks told e f = rw (e, f)

stopped_ended : (done : Bool) (looks told : ℕ) → done ≡ false → looks ≡ told → ended done looks ≡ ends.Stopped told
unfolding ended
stopped_ended done looks told e f = rw (e, f)

-- what a run answered
run_answered : (v : Verdict) (s : Search) (P : Pattern) (budget : ℕ) → RunAnswered v (ran_record (record_of s) P budget) s (ran_after v s P budget)
unfolding ran_after
run_answered (Ok _) s P budget =
    let r = ran_record (record_of s) P budget in
    record {
      refused = λ word place. ((λ a. never (cc)), (λ a. never (cc)));
      unchanged = λ word place a. never (cc);
      complete = λ looks. (
        (λ a. let told = ended_complete r.complete r.looks looks (cc) in (refl, told.0, told.1)),
        (λ w. ap Ok (complete_ended r.complete r.looks looks w.1 w.2)),
      );
      stopped = λ looks. (
        (λ a. let told = ended_stopped r.complete r.looks looks (cc) in (refl, told.0, told.1)),
        (λ w. ap Ok (stopped_ended r.complete r.looks looks w.1 w.2)),
      );
      reply = run_by_verdict accepted s P budget;
    }
run_answered (Err refusal) s P budget =
    record {
      refused = λ w p. ((λ a. cc), (λ a. cc));
      unchanged = λ w p a. refl;
      complete = λ looks. ((λ a. never (cc)), (λ w. never (cc)));
      stopped = λ looks. ((λ a. never (cc)), (λ w. never (cc)));
      reply = run_by_verdict (Err refusal) s P budget;
    }

pub run_tells :
    (v : Verdict) (s : Search) (P : Pattern) (budget : ℕ) (after : Record) (answer : Ran) →
    answer ≡ ran_after v s P budget → ran_record (record_of s) P budget ≡ after → RunAnswered v after s answer
run_tells v s P budget after answer is e =
    subst
    (λ (a : Ran). RunAnswered v after s a)
    (sym is)
    (subst (λ (r : Record). RunAnswered v r s (ran_after v s P budget)) e (run_answered v s P budget))
