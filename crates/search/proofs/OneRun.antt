-- An accepted opening, one run and a showing: the run is refused for its budget alone, and the showing for the room of its parts alone.
-- Demand 3 says what the showing answered and left, with the walk's record after the budget.
-- Assumes nothing.
use mathlib.Core.Bool.{true, not}
use mathlib.Core.List.{List}
use mathlib.Core.Path.{◌≡◌, refl, sym, ◌∙◌, ap, subst}
use Prim.Native.Nat.{ℕ, ◌+◌, ◌≤◌, ◌<◌}
use native.Mathlib.Omega.{arith}
use lib.ListN.{length, get_or}
use borrow.Author.Tests.{le-ltb}
use Rattle.std.specs.Prelude.{Result, Ok, Err}
use Rattle.model.specs.declared.Refusal.{Refusal}
use Rattle.model.specs.declared.Part.{Part}
use Rattle.model.specs.declared.Part.TheVariants.{Zero, One}
use Rattle.model.specs.declared.Word.TheVariants.{BadPart, ShortBuffer, Budget, State}
use Rattle.model.specs.declared.Caps.{Caps}
use Rattle.model.specs.declared.Ended.{Ended}
use Rattle.model.specs.declared.Ended.TheVariants as ends
use Rattle.model.specs.declared.Search.{Search}
use Rattle.model.specs.declared.Ran.{Ran}
use Rattle.model.specs.declared.Shown.{Shown}
use Rattle.model.specs.declared.Shown.TheVariants as showing
use Rattle.model.specs.Limits.{budget_limit}
use Rattle.model.specs.Refusal.{Verdict, accepted, refused, refuse, ◌then◌}
use Rattle.model.specs.Pattern.{Pattern, pattern_of}
use Rattle.model.specs.Split.{part_number}
use Rattle.model.specs.Walk.{Record, rules_of, fresh_of, walked}
use Rattle.model.specs.State.{caps_in, record_of, search_of, state_fine}
use Rattle.model.specs.Calls.{list_verdict, open_verdict, run_verdict, show_verdict, open_call, ended, ran_record, ran_after, run_call, shown_from, show_call, show_parts}
use Rattle.model.proofs.Theorems.Checks.{refuse_no, then_accepted, each_fine}
use Rattle.model.proofs.Theorems.Accepted.{open_accepted}
use Rattle.model.proofs.Theorems.OfList.{size_of}
use Rattle.pattern.specs.Measures.{part_verdict, parts_verdict}
use Rattle.running.specs.Budget.{budget_by}
use Rattle.search.specs.History.{accepted_budget, Handed, handed_slice, History, opened, ran, showed}
use Rattle.search.specs.Demand.{Demand, ShowAnswered}
use Rattle.running.proofs.Budgets.{budget_over, budget_taken}
use Rattle.search.proofs.Points.{walked_caps}
use Rattle.search.proofs.Demand3.{ended_budget, opened-none, demand_3}

-- the caps that the search of a record holds
search_caps : (r : Record) → caps_in (search_of r) ≡ r.caps
unfolding search_of
search_caps r = refl

-- a part's byte is 0 or 1
part_byte : (byte : ℕ) (p : Part) → byte ≡ part_number p → byte ≤ 1
part_byte byte Zero e = omega arith
part_byte byte One e = omega arith

module _ (m n nonzeros : ℕ) (list : List ℕ) (caps : Caps) (budget : ℕ) (opens : open_verdict m n nonzeros list caps ≡ accepted) where
  -- the pattern, and the walk's record after some tries
  abbrev P : Pattern
  P = pattern_of m n nonzeros list

  abbrev after : ℕ → Record
  after tries = walked P caps tries

  listed : list_verdict m n nonzeros list ≡ accepted
  listed = (open_accepted m n nonzeros list caps opens).listed

  -- a state of the walk passes the checks of its list and of its state
  state_passes :
      (tries : ℕ) → state_fine (rules_of P caps) m n nonzeros (after tries) ≡ true →
      list_verdict m n nonzeros list
      then refuse (not (state_fine (rules_of P (after tries).caps) m n nonzeros (after tries))) State 0
      ≡ accepted
  state_passes tries fine =
      then_accepted _ listed
      ∙ refuse_no
      State
      0
      (ap not (ap (λ (c : Caps). state_fine (rules_of P c) m n nonzeros (after tries)) (walked_caps m n nonzeros list caps opens tries) ∙ fine))

  -- the opening, and the search that it answers
  abbrev pub Fresh : Search
  Fresh = search_of (fresh_of P caps)

  pub opens_call : open_call m n nonzeros list caps ≡ Ok Fresh
  unfolding open_call
  opens_call = then_accepted _ opens

  abbrev start : History m n nonzeros list caps Fresh 0
  start = opened Fresh opens_call

  at_start : Demand m n nonzeros list caps Fresh 0
  at_start = (demand_3 m n nonzeros list caps).throughout start

  -- what each call is handed
  abbrev handed : Handed m n nonzeros list
  handed = handed_slice m n nonzeros list list (λ i below. refl)

  -- the run: of its checks only that of its budget can refuse
  runs : run_verdict (after 0) m n nonzeros list budget ≡ budget_by (after 0).tries budget
  unfolding run_verdict budget_by
  runs = then_accepted _ (state_passes 0 at_start.fine)

  abbrev pub Run : Ran
  Run = run_call Fresh m n nonzeros list budget

  run_is : (v : Verdict) → v ≡ budget_by (after 0).tries budget → Run ≡ ran_after v Fresh P budget
  run_is v e =
      at_start.run_is handed budget
      ∙ ap (λ (v : Verdict). ran_after v Fresh P budget) (runs ∙ sym e)

  -- whatever the run answers, demand 3 holds after it
  at_answer : Demand m n nonzeros list caps Run.search (0 + accepted_budget Run.answer budget)
  at_answer = ((demand_3 m n nonzeros list caps).throughout (ran start handed budget Run refl)).2

  -- and the search has the opening's caps
  pub run_caps : caps_in Run.search ≡ caps
  run_caps = ap caps_in at_answer.whole ∙ search_caps _ ∙ walked_caps m n nonzeros list caps opens _

  -- a budget over its range is refused 13
  pub run_refused : budget_limit < budget → Run.answer ≡ refused Budget 0
  unfolding ran_after
  run_refused over = ap (λ (a : Ran). a.answer) (run_is (refused Budget 0) (budget_over _ budget over))

  -- with one in its range the run is accepted
  module _ (within : budget ≤ budget_limit) where
    abbrev pub End : Record
    End = ran_record (record_of Fresh) P budget

    pub run_ended : Run.answer ≡ Ok (ended End.complete End.looks)
    unfolding ran_after
    run_ended = ap (λ (a : Ran). a.answer) (run_is accepted (budget_taken _ budget within (omega (arith, opened-none m n nonzeros list caps opens))))

    counts : accepted_budget Run.answer budget ≡ budget
    counts = ap (λ (a : Result Ended Refusal). accepted_budget a budget) run_ended ∙ ended_budget _ _ budget

    pub at_end : Demand m n nonzeros list caps Run.search budget
    at_end =
        subst (λ (total : ℕ). Demand m n nonzeros list caps Run.search total) (omega (arith, counts)) at_answer

    -- the showing
    module _ (parts : List ℕ) where
      abbrev pub Told : Result Shown Refusal
      Told = show_call Run.search m n nonzeros list parts

      abbrev pub Left : List ℕ
      Left = show_parts Run.search m n nonzeros list parts

      pub told :
          ShowAnswered P caps (after budget) (show_verdict (after budget) m n nonzeros list parts) parts Told Left
      told =
          subst
          (λ (total : ℕ). ShowAnswered P caps (after total) (show_verdict (after total) m n nonzeros list parts) parts Told Left)
          (omega (arith, counts))
          ((demand_3 m n nonzeros list caps).throughout (showed (ran start handed budget Run refl) handed parts Left Told refl refl)).1

      -- with room for the parts it is accepted
      pub shows : nonzeros ≤ length parts → show_verdict (after budget) m n nonzeros list parts ≡ accepted
      unfolding show_verdict
      shows room = then_accepted _ (state_passes budget at_end.fine) ∙ refuse_no ShortBuffer 0 (le-ltb (length parts) nonzeros room)

      -- and the parts of a split that it leaves pass their checks
      pub parts_fine :
          nonzeros ≤ length parts → (volume low : ℕ) → Told ≡ Ok (showing.Split volume low) → parts_verdict nonzeros Left ≡ accepted
      unfolding parts_verdict part_verdict
      parts_fine room volume low e =
          let shown = told.split volume low e in
          let part = shown_from P caps shown.walk_shows.0 in
          then_accepted _ (refuse_no ShortBuffer 0 (le-ltb (length Left) nonzeros (omega (arith, shown.same_length))))
          ∙ each_fine
          (part_verdict Left)
          nonzeros
          (λ t l. refuse_no BadPart t (le-ltb 1 (get_or Left t 0) (part_byte (get_or Left t 0) (part t) (shown.walk_shows.2 t (omega (arith, size_of m n nonzeros list))))))
