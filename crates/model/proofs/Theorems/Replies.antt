-- What each call replies in numbers: number, place and values, by its verdict. Beside each law stands its pair: an answer that equals the
-- call's definition replies so.
-- Assumes nothing.
use mathlib.Core.Bool.{Bool, true, false}
use mathlib.Core.List.{List, [], ◌∷◌}
use mathlib.Core.Option.{Option, some, none}
use mathlib.Core.Path.{◌≡◌, refl, ◌∙◌, ap}
use Prim.Native.Nat.{ℕ}
use Rattle.std.specs.Prelude.{Result, Ok, Err}
use Rattle.model.specs.declared.Refusal.{Refusal}
use Rattle.model.specs.declared.Caps.{Caps}
use Rattle.model.specs.declared.Search.{Search}
use Rattle.model.specs.declared.Capped.{Capped}
use Rattle.model.specs.declared.Ran.{Ran}
use Rattle.model.specs.Refusal.{Verdict, ◌then◌, Reply, given, reply_after, answer_reply, verdict_reply}
use Rattle.model.specs.Pattern.{Pattern, pattern_of}
use Rattle.model.specs.Walk.{Record, rules_of, floor}
use Rattle.model.specs.State.{record_of}
use Rattle.model.specs.Calls.{open_verdict, run_verdict, show_verdict, cap_verdict, cap_call, open_call, complete_number, ran_reply, ended, ran_record, ran_after, run_call, shown, shown_after, show_call, cap_reply, open_reply, ended_reply, run_reply, shows_reply, show_reply, shown_reply, open_replies, cap_replies, run_replies, show_replies}

-- an answer after a verdict
reply_then : {A : Type 0} (reply : A → Reply) (v : Verdict) (value : A) → answer_reply reply (v then Ok value) ≡ reply_after v (reply value)
reply_then reply (Ok _) value = refl
reply_then reply (Err refusal) value = refl

-- the cap from a percentage: the cap and the rest
pub cap_replies_lem :
    (nonzeros percent : ℕ) →
    cap_reply (cap_call nonzeros percent) ≡ cap_replies nonzeros percent
unfolding cap_call cap_replies
cap_replies_lem nonzeros percent = reply_then _ (cap_verdict nonzeros percent) _

pub cap_told :
    {answer : Result Capped Refusal} (nonzeros percent : ℕ) → answer ≡ cap_call nonzeros percent →
    (answer ≡ cap_call nonzeros percent) × (cap_reply answer ≡ cap_replies nonzeros percent)
cap_told nonzeros percent e = (e, ap cap_reply e ∙ cap_replies_lem nonzeros percent)

-- a check: no values
pub verdict_told :
    {answer : Verdict} (verdict : Verdict) → answer ≡ verdict →
    (answer ≡ verdict) × (verdict_reply answer ≡ verdict_reply verdict)
verdict_told verdict e = (e, ap verdict_reply e)

-- an opening: no values beside the search
pub open_replies_lem :
    (m n nonzeros : ℕ) (list : List ℕ) (caps : Caps) →
    open_reply (open_call m n nonzeros list caps) ≡ open_replies m n nonzeros list caps
unfolding open_call open_replies
open_replies_lem m n nonzeros list caps = reply_then _ (open_verdict m n nonzeros list caps) _

pub open_told :
    {answer : Result Search Refusal} (m n nonzeros : ℕ) (list : List ℕ) (caps : Caps) → answer ≡ open_call m n nonzeros list caps →
    (answer ≡ open_call m n nonzeros list caps)
    × (open_reply answer ≡ open_replies m n nonzeros list caps)
open_told m n nonzeros list caps e = (e, ap open_reply e ∙ open_replies_lem m n nonzeros list caps)

-- a run: complete 0 or 1, and the looks
ended_replies : (done : Bool) (looks : ℕ) → ended_reply (ended done looks) ≡ given (complete_number done ∷ looks ∷ [])
unfolding ended_reply ended
ended_replies true looks = refl
ended_replies false looks = refl

pub run_by_verdict :
    (v : Verdict) (s : Search) (P : Pattern) (budget : ℕ) →
    run_reply (ran_after v s P budget).answer
    ≡ reply_after v (ran_reply (ran_record (record_of s) P budget))
unfolding ran_after ran_reply
run_by_verdict (Ok _) s P budget =
    let r = ran_record (record_of s) P budget in
    ended_replies r.complete r.looks
run_by_verdict (Err refusal) s P budget = refl

pub run_replies_lem :
    (s : Search) (m n nonzeros : ℕ) (list : List ℕ) (budget : ℕ) →
    run_reply (run_call s m n nonzeros list budget).answer ≡ run_replies s m n nonzeros list budget
unfolding run_call run_replies
run_replies_lem s m n nonzeros list budget =
    run_by_verdict (run_verdict (record_of s) m n nonzeros list budget) s (pattern_of m n nonzeros list) budget

pub run_told :
    {answer : Ran} (s : Search) (m n nonzeros : ℕ) (list : List ℕ) (budget : ℕ) →
    answer ≡ run_call s m n nonzeros list budget →
    (answer ≡ run_call s m n nonzeros list budget)
    × (run_reply answer.answer ≡ run_replies s m n nonzeros list budget)
run_told s m n nonzeros list budget e =
    (e, ap (λ (a : Ran). run_reply a.answer) e ∙ run_replies_lem s m n nonzeros list budget)

-- a showing: volume and floor, or the floor alone
shown_replies :
    (P : Pattern) (caps : Caps) (best : Option (List ℕ)) (low : ℕ) → shows_reply (shown P caps best low) ≡ shown_reply P caps best low
unfolding shows_reply shown shown_reply
shown_replies P caps none low = refl
shown_replies P caps (some best) low = refl

pub show-by_verdict :
    (v : Verdict) (r : Record) (P : Pattern) →
    show_reply (shown_after v r P) ≡ reply_after v (shown_reply P r.caps r.best (floor (rules_of P r.caps) r))
unfolding shown_after
show-by_verdict (Ok _) r P = shown_replies P r.caps r.best (floor (rules_of P r.caps) r)
show-by_verdict (Err refusal) r P = refl

pub show_replies_lem :
    (s : Search) (m n nonzeros : ℕ) (list parts : List ℕ) →
    show_reply (show_call s m n nonzeros list parts) ≡ show_replies s m n nonzeros list parts
unfolding show_call show_replies
show_replies_lem s m n nonzeros list parts =
    show-by_verdict (show_verdict (record_of s) m n nonzeros list parts) (record_of s) (pattern_of m n nonzeros list)
