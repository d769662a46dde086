-- Demand 3 at one point: where a search is the walk's and its tries are within the limit, all that is claimed of that point holds.
-- Assumes nothing.
use mathlib.Core.List.{List}
use mathlib.Core.Option.{some}
use mathlib.Core.Path.{◌≡◌, sym, ◌∙◌, ap}
use Prim.Native.Nat.{ℕ, ◌+◌, ◌≤◌}
use native.Mathlib.Omega.{arith}
use lib.ListN.{length}
use borrow.Author.Tests.{ltb-false}
use Rattle.trail.specs.Trail.{mark_room}
use Rattle.model.specs.Refusal.{accepted}
use Rattle.model.specs.declared.Word.TheVariants.{ShortBuffer}
use Rattle.model.specs.declared.Caps.{Caps}
use Rattle.model.specs.declared.Search.{Search}
use Rattle.model.specs.Limits.{tries_limit}
use Rattle.model.specs.Pattern.{Pattern, Inside, pattern_of, line_total}
use Rattle.model.specs.Split.{volume}
use Rattle.model.specs.Walk.{Record, rules_of, fresh_of, walk, walked}
use Rattle.model.specs.State.{record_of, search_of}
use Rattle.model.specs.Calls.{open_verdict, run_verdict, ran_record, ran_after, run_call, shown_from, shown_after, parts_after, show_verdict, show_call, show_parts}
use Rattle.model.proofs.Walk.Sound.{empty_valid}
use Rattle.model.proofs.Walk.Legal.{Orderly, walk_orderly}
use Rattle.model.proofs.Walk.Reached.{For, walk_for}
use Rattle.model.proofs.Walk.Exact.{best_is}
use Rattle.model.proofs.Order.RulesSound.{rules_sound}
use Rattle.model.proofs.Theorems.Checks.{then-first, then-second, refuse-not}
use Rattle.model.proofs.Theorems.Accepted.{ListFine, list_accepted, accepted_inside, OpenFine, open_accepted}
use Rattle.model.proofs.Theorems.Least.{floor_below_volume, shown-within, complete_least}
use Rattle.model.proofs.Theorems.Ends.{most_tries, walked_tries, walked-looks, walked-looks_fit, walked_adds, walked_fine}
use Rattle.model.proofs.Alike.Patterns.{Alike}
use Rattle.state.proofs.Held.{record_back, few_lines}
use Rattle.search.specs.History.{Handed, run_table, show_table}
use Rattle.search.specs.Demand.{Demand}
use Rattle.search.proofs.Handing.{handed_alike, ran_same, shown_same, parts_same}

module _ (m n nonzeros : ℕ) (list : List ℕ) (caps : Caps) (opening : open_verdict m n nonzeros list caps ≡ accepted) where
  -- the pattern
  abbrev P : Pattern
  P = pattern_of m n nonzeros list

  open_fine : OpenFine m n nonzeros list caps
  open_fine = open_accepted m n nonzeros list caps opening

  inside : Inside P
  inside = accepted_inside m n nonzeros list open_fine.listed

  list_fine : ListFine m n nonzeros list
  list_fine = list_accepted m n nonzeros list open_fine.listed

  -- the markings of the walk fit their arrays
  walked_orderly : (total : ℕ) → Orderly (rules_of P caps) (walked P caps total)
  unfolding walked fresh_of rules_of
  walked_orderly total =
      walk_orderly (rules_of P caps) P.m P.n P.size caps total (empty_valid (rules_sound P caps inside))

  few : line_total P ≤ mark_room
  unfolding pattern_of
  few = few_lines P list_fine.rows_to list_fine.columns_to

  k_few : (rules_of P caps).k ≤ mark_room
  unfolding rules_of
  k_few = few

  best_short :
      (total : ℕ) (τ : List ℕ) → (walked P caps total).best ≡ some τ → length τ ≤ mark_room
  unfolding walked fresh_of rules_of
  best_short total τ e =
      let w = best_is (rules_of P caps) P.m P.n P.size caps total τ (empty_valid (rules_sound P caps inside)) e in
      omega (arith, w.0.long, few)

  -- the record read off the walk's search is the walk's
  pub walked-back : (total : ℕ) → record_of (search_of (walked P caps total)) ≡ walked P caps total
  walked-back total =
      record_back
      (walked P caps total)
      (omega (arith, (walked_orderly total).legal.within, k_few))
      (best_short total)

  -- its caps are the opening's
  pub walked_caps : (total : ℕ) → (walked P caps total).caps ≡ caps
  unfolding walked fresh_of rules_of
  walked_caps total = (walk_for (rules_of P caps) P.m P.n P.size caps total).limits

  -- a run of the walk's record
  pub walked-runs : (total budget : ℕ) → ran_record (walked P caps total) P budget ≡ walked P caps (total + budget)
  unfolding ran_record
  walked-runs total budget =
      ap (λ (c : Caps). walk (rules_of P c) budget (walked P caps total)) (walked_caps total)
      ∙ sym (walked_adds P caps total budget)

  -- the record is for this pattern
  walked_for : (total : ℕ) → For m n nonzeros caps (walked P caps total)
  unfolding walked fresh_of rules_of pattern_of
  walked_for total = walk_for (rules_of P caps) P.m P.n P.size caps total

  -- what a call is handed is the pattern, where nothing is refused
  abbrev pattern_for : Handed m n nonzeros list → Pattern
  pattern_for handed = pattern_of handed.rows handed.columns handed.size handed.slice

  run_alike :
      (handed : Handed m n nonzeros list) (total budget : ℕ) → run_table (walked P caps total) handed budget ≡ accepted → Alike (pattern_for handed) P
  unfolding run_verdict
  run_alike handed total budget h = handed_alike handed (walked P caps total) caps (walked_for total) (then-first _ _ h)

  show_alike :
      (handed : Handed m n nonzeros list) (total : ℕ) (parts : List ℕ) → show_table (walked P caps total) handed parts ≡ accepted →
      Alike (pattern_for handed) P
  unfolding show_verdict
  show_alike handed total parts h = handed_alike handed (walked P caps total) caps (walked_for total) (then-first _ _ h)

  -- an accepted showing has room for its parts
  pub show-room :
      (handed : Handed m n nonzeros list) (total : ℕ) (parts : List ℕ) → show_table (walked P caps total) handed parts ≡ accepted → P.size ≤ length parts
  unfolding show_verdict pattern_of
  show-room handed total parts h =
      let room = ltb-false (length parts) handed.size (refuse-not _ ShortBuffer 0 (then-second _ _ h)) in
      omega (arith, (show_alike handed total parts h).size_same)

  -- all of demand 3 at a point, where the search is the walk's and the tries are within the limit
  pub demand_at :
      (s : Search) (total : ℕ) → s ≡ search_of (walked P caps total) → (walked P caps total).tries ≤ tries_limit →
      Demand m n nonzeros list caps s total
  unfolding run_call show_call show_parts pattern_of most_tries
  demand_at s total e limit =
      record {
        state = back;
        whole = e;
        run_is = λ handed budget.
            ap
            (λ (r : Record).
            ran_after (run_table r handed budget) s (pattern_for handed) budget)
            back
            ∙ ran_same (pattern_for handed) P (run_table (walked P caps total) handed budget) s budget (run_alike handed total budget);
        show_is = λ handed parts.
            ap
            (λ (r : Record).
            shown_after (show_table r handed parts) r (pattern_for handed))
            back
            ∙ shown_same (pattern_for handed) P (show_table (walked P caps total) handed parts) (walked P caps total) (show_alike handed total parts);
        parts_are = λ handed parts.
            ap
            (λ (r : Record).
            parts_after (show_table r handed parts) r (pattern_for handed) parts)
            back
            ∙ parts_same (pattern_for handed) P (show_table (walked P caps total) handed parts) (walked P caps total) parts (show_alike handed total parts);
        shown_meets = λ best b. (shown-within P caps total best inside enough b).0;
        shown_volume = λ best b. (shown-within P caps total best inside enough b).1;
        floor_below = λ σ meets. floor_below_volume P caps total σ inside meets;
        complete_found = λ done. let w = complete_least P caps total inside enough done in (w.marks, w.best);
        complete_closed = λ done best b.
            let w = complete_least P caps total inside enough done in
            let same : w.marks ≡ best = cc w.best in
            w.closed ∙ ap (λ (τ : List ℕ). volume P (shown_from P caps τ)) same;
        fine = walked_fine P caps total inside enough open_fine.caps_to limit;
        tries_ends = walked_tries P caps total;
        tries-limit = limit;
        looks_most = walked-looks P caps total inside;
        looks_fit = walked-looks_fit P caps total inside list_fine.rows_to list_fine.size_to limit;
      }
    where
      back : record_of s ≡ walked P caps total
      back = ap record_of e ∙ walked-back total

      enough : P.size ≤ caps.cap0 + caps.cap1
      enough = open_fine.enough
