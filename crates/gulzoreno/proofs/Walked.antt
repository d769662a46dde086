-- Where no check refuses the C function's call, it is a history of an opening, a run and a showing: demand 3 says what its showing
-- answered and left, with the walk's record after the budget.
-- Assumes nothing.
use mathlib.Core.Bool.{false}
use mathlib.Core.List.{List}
use mathlib.Core.Path.{◌≡◌, ◌∙◌, ap}
use Prim.Native.Nat.{ℕ, ◌≤◌}
use lib.Dec.{ltb}
use lib.ListN.{length}
use borrow.Author.Tests.{ltb-false}
use Rattle.counting.specs.Tests.{◌or◌}
use Rattle.counting.proofs.Joined.{or_fails_right}
use Rattle.std.specs.Prelude.{Result}
use Rattle.model.specs.declared.Refusal.{Refusal}
use Rattle.model.specs.declared.Word.TheVariants.{ShortBuffer, Budget}
use Rattle.model.specs.declared.Caps.{Caps}
use Rattle.model.specs.declared.Search.{Search}
use Rattle.model.specs.declared.Shown.{Shown}
use Rattle.model.specs.Limits.{budget_limit}
use Rattle.model.specs.Refusal.{Verdict, accepted, refuse}
use Rattle.model.specs.Pattern.{Pattern, pattern_of}
use Rattle.model.specs.Walk.{Record, fresh_of, walked}
use Rattle.model.specs.State.{search_of}
use Rattle.model.specs.Calls.{list_verdict, open_verdict, show_verdict, opened_search, run_call, show_call, show_parts, show_code}
use Rattle.model.proofs.Theorems.Checks.{then-first, then-second, refuse-not}
use Rattle.model.proofs.Theorems.Accepted.{open_accepted}
use Rattle.search.specs.Demand.{Demand, ShowAnswered}
use Rattle.search.proofs.OneRun as one-run
use Rattle.gulzoreno.specs.Figures.{figures_bytes}
use Rattle.gulzoreno.specs.Host.{output_verdict, host_verdict, host_search, host_code_after, host_parts_after, figures_shown, host_figures_after, bipartition_code, bipartition_parts, bipartition_figures}

module _
    (m n nonzeros : ℕ) (list : List ℕ) (caps : Caps) (budget : ℕ) (parts figures : List ℕ)
    (passes : host_verdict m n nonzeros list caps budget parts figures ≡ accepted) where
  -- the pattern, and the walk's record after some tries
  abbrev P : Pattern
  P = pattern_of m n nonzeros list

  abbrev after : ℕ → Record
  after tries = walked P caps tries

  -- what each check says
  opens : open_verdict m n nonzeros list caps ≡ accepted
  unfolding host_verdict
  opens = then-first (open_verdict m n nonzeros list caps) (output_verdict nonzeros budget parts figures) passes

  pub listed : list_verdict m n nonzeros list ≡ accepted
  listed = (open_accepted m n nonzeros list caps opens).listed

  output : output_verdict nonzeros budget parts figures ≡ accepted
  unfolding host_verdict
  output = then-second (open_verdict m n nonzeros list caps) (output_verdict nonzeros budget parts figures) passes

  within_budget : budget ≤ budget_limit
  unfolding output_verdict
  within_budget =
      ltb-false
      budget_limit
      budget
      (refuse-not (ltb budget_limit budget) Budget 0 (then-first (refuse (ltb budget_limit budget) Budget 0) (refuse (ltb (length parts) nonzeros or ltb (length figures) figures_bytes) ShortBuffer 0) output))

  long : ltb (length parts) nonzeros or ltb (length figures) figures_bytes ≡ false
  unfolding output_verdict
  long =
      refuse-not
      (ltb (length parts) nonzeros or ltb (length figures) figures_bytes)
      ShortBuffer
      0
      (then-second (refuse (ltb budget_limit budget) Budget 0) (refuse (ltb (length parts) nonzeros or ltb (length figures) figures_bytes) ShortBuffer 0) output)

  pub figures_long : figures_bytes ≤ length figures
  figures_long = ltb-false (length figures) figures_bytes (or_fails_right (ltb (length parts) nonzeros) (ltb (length figures) figures_bytes) long)

  -- the search that is run is the fresh one
  fresh_run :
      host_search m n nonzeros list caps budget ≡ (run_call (search_of (fresh_of P caps)) m n nonzeros list budget).search
  unfolding host_search
  fresh_run =
      ap
      (λ (o : Result Search Refusal). (run_call (opened_search o) m n nonzeros list budget).search)
      (one-run.opens_call m n nonzeros list caps budget opens)

  -- the run and the showing
  pub at_end : Demand m n nonzeros list caps (host_search m n nonzeros list caps budget) budget
  at_end = rw fresh_run (one-run.at_end m n nonzeros list caps budget opens within_budget)

  abbrev pub Told : Result Shown Refusal
  Told = show_call (host_search m n nonzeros list caps budget) m n nonzeros list parts

  abbrev pub Left : List ℕ
  Left = show_parts (host_search m n nonzeros list caps budget) m n nonzeros list parts

  pub told :
      ShowAnswered P caps (after budget) (show_verdict (after budget) m n nonzeros list parts) parts Told Left
  told = rw fresh_run (one-run.told m n nonzeros list caps budget opens within_budget parts)

  -- the answer, the parts and the figures are those of this showing
  pub code_is : bipartition_code m n nonzeros list caps budget parts figures ≡ show_code Told
  unfolding bipartition_code host_code_after
  code_is = ap (λ (v : Verdict). host_code_after v Told) passes

  pub parts_are : bipartition_parts m n nonzeros list caps budget parts figures ≡ Left
  unfolding bipartition_parts host_parts_after
  parts_are = ap (λ (v : Verdict). host_parts_after v Left parts) passes

  pub figures_are :
      bipartition_figures m n nonzeros list caps budget parts figures ≡ figures_shown Told (search_of (after budget)) figures
  unfolding bipartition_figures host_figures_after
  figures_are =
      ap (λ (v : Verdict). host_figures_after v Told (host_search m n nonzeros list caps budget) figures) passes
      ∙ ap (λ (s : Search). figures_shown Told s figures) at_end.whole
