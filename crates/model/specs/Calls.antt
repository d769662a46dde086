-- Document 01, 'Refusal table' and 'The walk', with document 02's requests 5 to 7: what an opening, a run and a showing answer, in
-- the table's order of checks.
-- Assumes nothing.
use Rattle.std.specs.Prelude.{Bool, true, false, not, List, [], ◌∷◌, ℕ, zero, suc, ◌+◌, ◌*◌, eqb, ltb, leb, length, set, Result, Ok, Err}
use Rattle.std.proofs.Math.Option.{Option, some, none}
use Rattle.counting.specs.Tests.{◌and◌, ◌or◌, bit}
use Rattle.model.specs.declared.Word.TheVariants.{TooBig, OffMatrix, ShortBuffer, Order, Cap, NoSplit, Budget, State, SplitNumber}
use Rattle.model.specs.declared.Caps.{Caps}
use Rattle.model.specs.declared.Refusal.{Refusal}
use Rattle.model.specs.declared.Capped.{Capped}
use Rattle.model.specs.declared.Search.{Search}
use Rattle.model.specs.declared.Ended.{Ended}
use Rattle.model.specs.declared.Ended.TheVariants.{Complete, Stopped}
use Rattle.model.specs.declared.Ran.{Ran}
use Rattle.model.specs.declared.Shown.{Shown}
use Rattle.model.specs.declared.Shown.TheVariants as showing
use Rattle.model.specs.Limits.{line_limit, nonzero_limit, percent_limit, budget_limit, tries_limit}
use Rattle.model.specs.Refusal.{Verdict, refuse, ◌then◌, each_verdict, Reply, given, none_yet, reply_after, answer_reply, verdict_reply, reply_code}
use Rattle.model.specs.Pattern.{Pattern, entry_bytes, row_place, column_place, high_in, row_in, column_in, pattern_of}
use Rattle.model.specs.Split.{Split, caps_outside, part_number, volume, cap_from_percent, rest_from_percent}
use Rattle.model.specs.Marking.{marking}
use Rattle.model.specs.Walk.{Record, rules_of, fresh_of, walk, floor, shown_split}
use Rattle.model.specs.State.{record_of, search_of, no_record, state_fine}

-- outside the range 1 to the limit
unfoldable pub outside : ℕ → ℕ → Bool
outside limit x = eqb x 0 or ltb limit x

-- 4: m, n or N outside its range
unfoldable pub sizes_verdict : ℕ → ℕ → ℕ → Verdict
sizes_verdict m n nonzeros =
    refuse
    (outside line_limit m or outside line_limit n or ltb nonzero_limit nonzeros or ltb (m * n) nonzeros)
    TooBig
    0

-- nonzero t comes after the one before it, by row and then column
unfoldable pub rises : List ℕ → ℕ → Bool
rises list zero = true
rises list (suc t) =
    ltb (row_in list t) (row_in list (suc t))
    or (eqb (row_in list t) (row_in list (suc t)) and ltb (column_in list t) (column_in list (suc t)))

-- a row or column number with high byte over 1
unfoldable pub split_number : List ℕ → ℕ → Bool
split_number list t = ltb 1 (high_in list (row_place t)) or ltb 1 (high_in list (column_place t))

-- row or column outside
unfoldable pub off_matrix : ℕ → ℕ → List ℕ → ℕ → Bool
off_matrix m n list t = leb m (row_in list t) or leb n (column_in list t)

-- 17, 5, 10: a split number; row or column outside; list not strictly rising
unfoldable pub entry_verdict : ℕ → ℕ → List ℕ → ℕ → Verdict
entry_verdict m n list t =
    refuse (split_number list t) SplitNumber t
    then refuse (off_matrix m n list t) OffMatrix t
    then refuse (not (rises list t)) Order t

-- per nonzero, in number order
abbrev pub entries_verdict : ℕ → ℕ → List ℕ → ℕ → Verdict
entries_verdict m n list = each_verdict (entry_verdict m n list)

-- the checks of a list: 4, 9, then per nonzero 17, 5, 10
unfoldable pub list_verdict : ℕ → ℕ → ℕ → List ℕ → Verdict
list_verdict m n nonzeros list =
    sizes_verdict m n nonzeros
    then refuse (ltb (length list) (entry_bytes * nonzeros)) ShortBuffer 0
    then entries_verdict m n list nonzeros

-- opening: the list's checks; then 11 if either cap is outside its range, and 12 if N exceeds their sum
unfoldable pub open_verdict : ℕ → ℕ → ℕ → List ℕ → Caps → Verdict
open_verdict m n nonzeros list caps =
    list_verdict m n nonzeros list
    then refuse (caps_outside caps) Cap 0
    then refuse (ltb (caps.cap0 + caps.cap1) nonzeros) NoSplit 0

-- run: the list's checks, then 14, then 13
unfoldable pub run_verdict : Record → ℕ → ℕ → ℕ → List ℕ → ℕ → Verdict
run_verdict r m n nonzeros list budget =
    list_verdict m n nonzeros list
    then refuse (not (state_fine (rules_of (pattern_of m n nonzeros list) r.caps) m n nonzeros r)) State 0
    then refuse (ltb budget_limit budget or ltb tries_limit (r.tries + budget)) Budget 0

-- showing: the list's checks, then 14, then 9 for its parts
unfoldable pub show_verdict : Record → ℕ → ℕ → ℕ → List ℕ → List ℕ → Verdict
show_verdict r m n nonzeros list parts =
    list_verdict m n nonzeros list
    then refuse (not (state_fine (rules_of (pattern_of m n nonzeros list) r.caps) m n nonzeros r)) State 0
    then refuse (ltb (length parts) nonzeros) ShortBuffer 0

-- the cap from e: 4 for N, then 11
unfoldable pub cap_verdict : ℕ → ℕ → Verdict
cap_verdict nonzeros percent =
    refuse (ltb nonzero_limit nonzeros) TooBig 0 then refuse (ltb percent_limit percent) Cap 0

-- this cap and this rest
abbrev pub capped : ℕ → ℕ → Result Capped Refusal
capped cap rest = Ok (record { cap = cap; rest = rest })

-- what the cap from e answers: the cap and the rest
unfoldable pub cap_call : ℕ → ℕ → Result Capped Refusal
cap_call nonzeros percent =
    cap_verdict nonzeros percent
    then capped (cap_from_percent nonzeros percent) (rest_from_percent nonzeros percent)

-- what an opening answers: the fresh search
unfoldable pub open_call : ℕ → ℕ → ℕ → List ℕ → Caps → Result Search Refusal
open_call m n nonzeros list caps =
    open_verdict m n nonzeros list caps
    then Ok (search_of (fresh_of (pattern_of m n nonzeros list) caps))

-- the search that an opening answers; where it is refused, the one with nothing in it
abbrev pub opened_search : Result Search Refusal → Search
opened_search (Ok fresh) = fresh
opened_search (Err refusal) = search_of no_record

-- complete 0 or 1
unfoldable pub complete_number : Bool → ℕ
complete_number complete = bit complete

-- complete, or stopped otherwise, with the looks since the fresh search
unfoldable pub ended : Bool → ℕ → Ended
ended true looks = Complete looks
ended false looks = Stopped looks

-- the record after an accepted run
unfoldable pub ran_record : Record → Pattern → ℕ → Record
ran_record r P budget = walk (rules_of P r.caps) budget r

-- what a run answers, after this verdict; a refused one returns the search unchanged
unfoldable pub ran_after : Verdict → Search → Pattern → ℕ → Ran
ran_after (Ok _) s P budget =
    let r = ran_record (record_of s) P budget in
    record { answer = Ok (ended r.complete r.looks); search = search_of r }
ran_after (Err refusal) s P budget = record { answer = Err refusal; search = s }

-- what a run answers
unfoldable pub run_call : Search → ℕ → ℕ → ℕ → List ℕ → ℕ → Ran
run_call s m n nonzeros list budget =
    ran_after
    (run_verdict (record_of s) m n nonzeros list budget)
    s
    (pattern_of m n nonzeros list)
    budget

-- the split shown from a best marking
unfoldable pub shown_from : Pattern → Caps → List ℕ → Split
shown_from P caps best = shown_split P caps (marking P best)

-- what an accepted showing gives: the volume of the shown split and the floor; without a best marking "none yet" and the floor
unfoldable pub shown : Pattern → Caps → Option (List ℕ) → ℕ → Shown
shown P caps none floor = showing.NoneYet floor
shown P caps (some best) floor = showing.Split (volume P (shown_from P caps best)) floor

-- a parts buffer after a split is written to it: the part of each of the first nonzeros, and the bytes past them as they were
unfoldable pub part_bytes : Split → ℕ → List ℕ → List ℕ
part_bytes σ zero parts = parts
part_bytes σ (suc t) parts = set (part_bytes σ t parts) t (part_number (σ t))

-- the parts buffer after an accepted showing; at "none yet" all its bytes stay
unfoldable pub shown_parts : Pattern → Caps → Option (List ℕ) → List ℕ → List ℕ
shown_parts P caps none parts = parts
shown_parts P caps (some best) parts = part_bytes (shown_from P caps best) P.size parts

-- what a showing answers, after this verdict
unfoldable pub shown_after : Verdict → Record → Pattern → Result Shown Refusal
shown_after verdict r P = verdict then Ok (shown P r.caps r.best (floor (rules_of P r.caps) r))

-- the parts buffer after a showing with this verdict; a refused one leaves its bytes
unfoldable pub parts_after : Verdict → Record → Pattern → List ℕ → List ℕ
parts_after (Ok _) r P parts = shown_parts P r.caps r.best parts
parts_after (Err refusal) r P parts = parts

-- what a showing answers
unfoldable pub show_call : Search → ℕ → ℕ → ℕ → List ℕ → List ℕ → Result Shown Refusal
show_call s m n nonzeros list parts =
    shown_after
    (show_verdict (record_of s) m n nonzeros list parts)
    (record_of s)
    (pattern_of m n nonzeros list)

-- the parts buffer after a showing
unfoldable pub show_parts : Search → ℕ → ℕ → ℕ → List ℕ → List ℕ → List ℕ
show_parts s m n nonzeros list parts =
    parts_after
    (show_verdict (record_of s) m n nonzeros list parts)
    (record_of s)
    (pattern_of m n nonzeros list)
    parts

-- the number and values of each case of an answer: the cap and the rest
abbrev pub cap_reply : Result Capped Refusal → Reply
cap_reply = answer_reply (λ capped. given (capped.cap ∷ capped.rest ∷ []))

-- an opening: no values beside the search
abbrev pub open_reply : Result Search Refusal → Reply
open_reply = answer_reply (λ search. given [])

-- complete 0 or 1, and the looks
unfoldable pub ended_reply : Ended → Reply
ended_reply (Complete looks) = given (complete_number true ∷ looks ∷ [])
ended_reply (Stopped looks) = given (complete_number false ∷ looks ∷ [])

abbrev pub run_reply : Result Ended Refusal → Reply
run_reply = answer_reply ended_reply

-- volume and floor, or 255 and the floor for "none yet"
unfoldable pub shows_reply : Shown → Reply
shows_reply (showing.Split volume floor) = given (volume ∷ floor ∷ [])
shows_reply (showing.NoneYet floor) = none_yet (floor ∷ [])

abbrev pub show_reply : Result Shown Refusal → Reply
show_reply = answer_reply shows_reply

-- what an accepted showing replies, by the best marking
unfoldable pub shown_reply : Pattern → Caps → Option (List ℕ) → ℕ → Reply
shown_reply P caps none floor = none_yet (floor ∷ [])
shown_reply P caps (some best) floor = given (volume P (shown_from P caps best) ∷ floor ∷ [])

-- what each call replies in numbers: the checks of a list, and an opening
unfoldable pub list_replies : ℕ → ℕ → ℕ → List ℕ → Reply
list_replies m n nonzeros list = verdict_reply (list_verdict m n nonzeros list)

unfoldable pub open_replies : ℕ → ℕ → ℕ → List ℕ → Caps → Reply
open_replies m n nonzeros list caps = verdict_reply (open_verdict m n nonzeros list caps)

-- the cap from e
unfoldable pub cap_replies : ℕ → ℕ → Reply
cap_replies nonzeros percent =
    reply_after
    (cap_verdict nonzeros percent)
    (given (cap_from_percent nonzeros percent ∷ rest_from_percent nonzeros percent ∷ []))

-- what an accepted run replies, by the record after it
unfoldable pub ran_reply : Record → Reply
ran_reply r = given (complete_number r.complete ∷ r.looks ∷ [])

-- a run
unfoldable pub run_replies : Search → ℕ → ℕ → ℕ → List ℕ → ℕ → Reply
run_replies s m n nonzeros list budget =
    reply_after
    (run_verdict (record_of s) m n nonzeros list budget)
    (ran_reply (ran_record (record_of s) (pattern_of m n nonzeros list) budget))

-- a showing
unfoldable pub show_replies : Search → ℕ → ℕ → ℕ → List ℕ → List ℕ → Reply
show_replies s m n nonzeros list parts =
    let P = pattern_of m n nonzeros list in
    let r = record_of s in
    reply_after
    (show_verdict r m n nonzeros list parts)
    (shown_reply P r.caps r.best (floor (rules_of P r.caps) r))

-- a showing's answer as one number: 0, or 255 for "none yet", or a refusal as number + 256 × place
unfoldable pub show_code : Result Shown Refusal → ℕ
show_code answer = reply_code (show_reply answer)
