-- What the opening and the checks after it answer.
-- Assumes nothing.
use mathlib.Core.List.{List}
use mathlib.Core.Path.{◌≡◌, refl, sym, ◌∙◌, ap}
use Prim.Native.Nat.{ℕ}
use lib.Dec.{ltb}
use lib.ListN.{length}
use Rattle.std.specs.Prelude.{Result, Ok, Err}
use Rattle.model.specs.declared.Refusal.{Refusal}
use Rattle.model.specs.declared.Word.TheVariants.{ShortBuffer, Budget}
use Rattle.model.specs.declared.Caps.{Caps}
use Rattle.model.specs.declared.Search.{Search}
use Rattle.model.specs.Limits.{budget_limit}
use Rattle.model.specs.Refusal.{accepted, refuse, ◌then◌}
use Rattle.model.specs.Pattern.{pattern_of}
use Rattle.model.specs.Walk.{fresh_of}
use Rattle.model.specs.State.{search_of}
use Rattle.model.specs.Calls.{open_call, opened_search, run_call}
use Rattle.model.proofs.Theorems.Checks.{refuse_either, then_accepted, then_assoc, then-first, refused_by, answered_by}
use Rattle.gulzoreno.specs.Figures.{figures_bytes}
use Rattle.gulzoreno.specs.Host.{output_verdict, host_verdict, host_search}

-- the checks after the opening, one after another
pub output_each :
    (nonzeros budget : ℕ) (parts figures : List ℕ) →
    output_verdict nonzeros budget parts figures
    ≡ refuse (ltb budget_limit budget) Budget 0
    then refuse (ltb (length parts) nonzeros) ShortBuffer 0
    then refuse (ltb (length figures) figures_bytes) ShortBuffer 0
unfolding output_verdict
output_each nonzeros budget parts figures =
    ap (λ v. refuse (ltb budget_limit budget) Budget 0 then v) (refuse_either _ _ ShortBuffer 0)
    ∙ sym (then_assoc (refuse (ltb budget_limit budget) Budget 0) _ _)

module _ (m n nonzeros : ℕ) (list : List ℕ) (caps : Caps) (budget : ℕ) (parts figures : List ℕ) where
  -- the fresh search, where no check refuses the call
  abbrev pub Opened : Result Search Refusal
  Opened = host_verdict m n nonzeros list caps budget parts figures then Ok (search_of (fresh_of (pattern_of m n nonzeros list) caps))

  -- the opening refuses
  pub unopened : {refusal : Refusal} → open_call m n nonzeros list caps ≡ Err refusal → Err refusal ≡ Opened
  unfolding host_verdict open_call
  unopened e = rw (refused_by _ _ e) refl

  -- a check after it refuses
  pub unfit :
      {search : Search} {refusal : Refusal} → open_call m n nonzeros list caps ≡ Ok search →
      output_verdict nonzeros budget parts figures ≡ Err refusal → Err refusal ≡ Opened
  unfolding host_verdict open_call
  unfit e f = rw ((answered_by _ _ e).0, f) refl

  -- none refuses
  pub opens :
      {search : Search} → open_call m n nonzeros list caps ≡ Ok search →
      output_verdict nonzeros budget parts figures ≡ accepted → Ok search ≡ Opened
  unfolding host_verdict open_call
  opens e f = let p = answered_by _ _ e in rw (p.0, f, p.1) refl

  -- then the search that is run is the one opened
  pub taken :
      {search : Search} → Opened ≡ Ok search →
      (host_verdict m n nonzeros list caps budget parts figures ≡ accepted)
      × (host_search m n nonzeros list caps budget ≡ (run_call search m n nonzeros list budget).search)
  unfolding host_search host_verdict open_call
  taken e =
      let p = answered_by _ _ e in
      let fresh = then_accepted (Ok (search_of (fresh_of (pattern_of m n nonzeros list) caps))) (then-first _ _ p.0) in
      (p.0, ap (λ (s : Search). (run_call s m n nonzeros list budget).search) (ap opened_search fresh ∙ p.1))
