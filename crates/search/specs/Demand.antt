-- Demand 3: what is claimed of every history, at each of its points and for what each call answered.
-- Assumes nothing.
use Rattle.std.specs.Prelude.{true, false, List, ◌↔◌, ◌≡◌, ℕ, ◌+◌, ◌*◌, ◌^◌, ◌-◌, ◌/◌, ◌≤◌, ◌<◌, length, get_or}
use Rattle.std.proofs.Math.Option.{some, none}
use Rattle.std.specs.Prelude.{Result, Ok, Err}
use Rattle.model.specs.declared.Refusal.{Refusal}
use Rattle.model.specs.declared.Word.{Word}
use Rattle.model.specs.declared.Word.TheVariants.{NoSplit}
use Rattle.model.specs.declared.Caps.{Caps}
use Rattle.model.specs.declared.Search.{Search}
use Rattle.model.specs.declared.Ended.TheVariants as ends
use Rattle.model.specs.declared.Ran.{Ran}
use Rattle.model.specs.declared.Shown.{Shown}
use Rattle.model.specs.declared.Shown.TheVariants as showing
use Rattle.model.specs.Limits.{tries_limit}
use Rattle.model.specs.Refusal as table
use Rattle.model.specs.Refusal.{Verdict, accepted, refused, verdict_in, reply_after}
use Rattle.model.specs.Pattern.{Pattern, pattern_of, line_total}
use Rattle.model.specs.Split.{Split, Meets, caps_outside, part_number, volume}
use Rattle.model.specs.Walk.{Record, rules_of, walked, floor}
use Rattle.model.specs.State.{record_of, search_of, state_fine}
use Rattle.model.specs.Calls.{list_verdict, open_verdict, open_call, ran_reply, ran_after, shown_from, shown_after, parts_after, open_reply, run_reply, show_reply, shown_reply, open_replies}
use Rattle.pattern.specs.Splits.{split_of}
use Rattle.search.specs.History.{accepted_budget, Handed, run_of, show_of, parts_of, run_table, show_table, History, opened, ran, showed}

-- within document 01's limits: no check placed before 12 refuses the opening
pub record Within (m n nonzeros : ℕ) (list : List ℕ) (caps : Caps) : Type 0 where
  pub listed : list_verdict m n nonzeros list ≡ accepted
  pub capped : caps_outside caps ≡ false

-- demand 3 at one point of a history: P is the pattern, r the walk's record after the accepted budgets, and s the search
pub record DemandAt (m n nonzeros : ℕ) (list : List ℕ) (caps : Caps) (P : Pattern) (r : Record) (s : Search) : Type 0 where
  -- the state, tries and looks are exactly those of the walk, markings mark by mark
  pub state : record_of s ≡ r
  pub whole : s ≡ search_of r
  -- a run is accepted exactly if the table, read with the walk's record, gives it no refusal, and makes its budget of the walk's tries
  pub run_is :
      (handed : Handed m n nonzeros list) (budget : ℕ) →
      run_of s handed budget ≡ ran_after (run_table r handed budget) s P budget
  -- a showing likewise; what it gives is what the walk shows, and so is every byte of its parts buffer
  pub show_is :
      (handed : Handed m n nonzeros list) (parts : List ℕ) →
      show_of s handed parts ≡ shown_after (show_table r handed parts) r P
  pub parts_are :
      (handed : Handed m n nonzeros list) (parts : List ℕ) →
      parts_of s handed parts ≡ parts_after (show_table r handed parts) r P parts
  -- a split shown meets both caps, and has at most the best count as its published volume
  pub shown_meets : (best : List ℕ) → r.best ≡ some best → Meets P caps (shown_from P caps best)
  pub shown_volume : (best : List ℕ) → r.best ≡ some best → volume P (shown_from P caps best) ≤ r.best_count
  -- every split that meets both caps has at least the floor as its published volume
  pub floor_below : (σ : Split) → Meets P caps σ → floor (rules_of P caps) r ≤ volume P σ
  -- a complete search has a split to show, and shows floor = volume
  pub complete_found : r.complete ≡ true → (best : List ℕ) × (r.best ≡ some best)
  pub complete_closed :
      r.complete ≡ true → (best : List ℕ) → r.best ≡ some best →
      floor (rules_of P caps) r ≡ volume P (shown_from P caps best)
  -- no state reached is refused under 14
  pub fine : state_fine (rules_of P caps) m n nonzeros r ≡ true
  -- tries never exceed (3^(k+1) − 3) / 2, nor the limit
  pub tries_ends : r.tries ≤ (3 ^ (line_total P + 1) - 3) / 2
  pub tries-limit : r.tries ≤ tries_limit
  -- looks never exceed tries × m × N, and fit eight bytes
  pub looks_most : r.looks ≤ r.tries * m * nonzeros
  pub looks_fit : r.looks < 2 ^ 64

-- demand 3 at a point where the accepted budgets add up to total
abbrev pub Demand : ℕ → ℕ → ℕ → List ℕ → Caps → Search → ℕ → Type 0
Demand m n nonzeros list caps s total =
    DemandAt
    m
    n
    nonzeros
    list
    caps
    (pattern_of m n nonzeros list)
    (walked (pattern_of m n nonzeros list) caps total)
    s

-- what a run answered: `verdict` is the table's, read with the walk's record before it; `after` is the walk's record after its budget
pub record RunAnswered (verdict : Verdict) (after : Record) (s : Search) (answer : Ran) : Type 0 where
  -- refused as the table says, and then the search is as it was
  pub refused : (word : Word) (place : ℕ) → (answer.answer ≡ table.refused word place) ↔ (verdict ≡ table.refused word place)
  pub unchanged : (word : Word) (place : ℕ) → answer.answer ≡ table.refused word place → answer.search ≡ s
  -- otherwise complete, or stopped, as the walk's record, with the looks of that record
  pub complete :
      (looks : ℕ) →
      (answer.answer ≡ Ok (ends.Complete looks)) ↔ ((verdict ≡ accepted) × (after.complete ≡ true) × (after.looks ≡ looks))
  pub stopped :
      (looks : ℕ) →
      (answer.answer ≡ Ok (ends.Stopped looks)) ↔ ((verdict ≡ accepted) × (after.complete ≡ false) × (after.looks ≡ looks))
  -- what the run replies in numbers
  pub reply : run_reply answer.answer ≡ reply_after verdict (ran_reply after)

-- what a split that was answered is: `shown` and `low` are the volume and the floor answered, `after` the bytes left in the parts buffer
pub record SplitAnswered (P : Pattern) (caps : Caps) (r : Record) (parts : List ℕ) (shown low : ℕ) (after : List ℕ) : Type 0 where
  -- the split read off these bytes meets both caps, and has the volume answered as its published volume
  pub meets : Meets P caps (split_of after)
  pub volume_is : volume P (split_of after) ≡ shown
  -- it is the one that the walk shows, byte by byte
  pub walk_shows : (best : List ℕ) × (r.best ≡ some best) × ((t : ℕ) → t < P.size → get_or after t 0 ≡ part_number (shown_from P caps best t))
  -- every split that meets both caps has at least the floor answered as its published volume
  pub floor_is : low ≡ floor (rules_of P caps) r
  pub floor_below : (σ : Split) → Meets P caps σ → low ≤ volume P σ
  -- a complete search shows floor = volume
  pub complete_closed : r.complete ≡ true → low ≡ shown
  -- the bytes past the Nth stay
  pub same_length : length after ≡ length parts
  pub rest_stays : (i : ℕ) → P.size ≤ i → get_or after i 0 ≡ get_or parts i 0

-- what a showing answered and left in its parts buffer: `verdict` is the table's, read with the walk's record r
pub record ShowAnswered (P : Pattern) (caps : Caps) (r : Record) (verdict : Verdict) (parts : List ℕ) (answer : Result Shown Refusal) (after : List ℕ) : Type 0 where
  -- refused as the table says, and then every byte stays
  pub refused : (word : Word) (place : ℕ) → (answer ≡ table.refused word place) ↔ (verdict ≡ table.refused word place)
  pub unchanged : (word : Word) (place : ℕ) → answer ≡ table.refused word place → after ≡ parts
  -- otherwise "none yet", exactly when the walk has no best marking; then every byte stays, and the floor is given all the same
  pub none_yet :
      (low : ℕ) →
      (answer ≡ Ok (showing.NoneYet low)) ↔ ((verdict ≡ accepted) × (r.best ≡ none) × (floor (rules_of P caps) r ≡ low))
  pub none_stays : (low : ℕ) → answer ≡ Ok (showing.NoneYet low) → after ≡ parts
  pub none_floor : (low : ℕ) → answer ≡ Ok (showing.NoneYet low) → (σ : Split) → Meets P caps σ → low ≤ volume P σ
  -- or a split, with the volume and the floor that the walk shows
  pub found :
      (best : List ℕ) → verdict ≡ accepted → r.best ≡ some best →
      answer ≡ Ok (showing.Split (volume P (shown_from P caps best)) (floor (rules_of P caps) r))
  pub split : (shown low : ℕ) → answer ≡ Ok (showing.Split shown low) → SplitAnswered P caps r parts shown low after
  -- what the showing replies in numbers
  pub reply : show_reply answer ≡ reply_after verdict (shown_reply P caps r.best (floor (rules_of P caps) r))

-- demand 3 over the whole list: at each of its points, and for what each call answered
abbrev pub Throughout :
    {m n nonzeros : ℕ} {list : List ℕ} {caps : Caps} {s : Search} {total : ℕ} →
    History m n nonzeros list caps s total → Type 0
Throughout {m} {n} {nonzeros} {list} {caps} (opened search called) =
    Demand m n nonzeros list caps search 0
Throughout {m} {n} {nonzeros} {list} {caps} (ran {s} {total} h handed budget answer called) =
    let P = pattern_of m n nonzeros list in
    Throughout h
    × RunAnswered
    (run_table (walked P caps total) handed budget)
    (walked P caps (total + budget))
    s
    answer
    × Demand m n nonzeros list caps answer.search (total + accepted_budget answer.answer budget)
Throughout {m} {n} {nonzeros} {list} {caps} (showed {s} {total} h handed parts after answer called written) =
    let P = pattern_of m n nonzeros list in
    Throughout h
    × ShowAnswered
    P
    caps
    (walked P caps total)
    (show_table (walked P caps total) handed parts)
    parts
    answer
    after
    × Demand m n nonzeros list caps s total

-- some split of the pattern meets both caps
abbrev pub Splits : Pattern → Caps → Type 0
Splits P caps = (σ : Split) × Meets P caps σ

-- the whole claim: what is demanded throughout every history; and the opening accepted exactly if the table gives it no refusal, with
-- refusal 12 exactly when, within document 01's limits, no split meets both caps
pub record Demand3 (m n nonzeros : ℕ) (list : List ℕ) (caps : Caps) : Type 0 where
  pub throughout : {s : Search} {total : ℕ} (h : History m n nonzeros list caps s total) → Throughout h
  pub opens : verdict_in (open_call m n nonzeros list caps) ≡ open_verdict m n nonzeros list caps
  pub opens_reply : open_reply (open_call m n nonzeros list caps) ≡ open_replies m n nonzeros list caps
  pub accepts :
      (verdict_in (open_call m n nonzeros list caps) ≡ accepted)
      ↔ (Within m n nonzeros list caps × Splits (pattern_of m n nonzeros list) caps)
  pub refuses :
      (verdict_in (open_call m n nonzeros list caps) ≡ refused NoSplit 0)
      ↔ (Within m n nonzeros list caps × (Splits (pattern_of m n nonzeros list) caps → ⊥))
