-- The checks of a list and of a state, before any later check: what they come to where nothing is refused, and where one refuses.
-- Assumes nothing.
use Rattle.std.specs.Prelude.{Ok, Err}
use mathlib.Core.Bool.{Bool, true, not}
use mathlib.Core.List.{List}
use mathlib.Core.Path.{◌≡◌, sym, ◌∙◌, ap}
use Prim.Native.Nat.{ℕ}
use Rattle.model.specs.declared.Word.TheVariants.{State}
use Rattle.model.specs.declared.Search.{Search}
use Rattle.model.specs.declared.Refusal.{Refusal}
use Rattle.model.specs.Refusal.{Verdict, accepted, refuse, ◌then◌}
use Rattle.model.specs.Pattern.{pattern_of}
use Rattle.model.specs.Walk.{rules_of}
use Rattle.model.specs.State.{caps_in, record_of, state_fine}
use Rattle.model.specs.Calls.{list_verdict}
use Rattle.model.proofs.Theorems.Checks.{refuse_no, then_accepted}

-- the checks of a list and of a state, and then a later one
unfoldable pub state_then : Search → ℕ → ℕ → ℕ → List ℕ → Verdict → Verdict
state_then s m n nonzeros list later =
    list_verdict m n nonzeros list
    then refuse (not (state_fine (rules_of (pattern_of m n nonzeros list) (caps_in s)) m n nonzeros (record_of s))) State 0
    then later

module _ (s : Search) (m n nonzeros : ℕ) (list : List ℕ) (later : Verdict) where
  -- the state is fine
  pub then-later :
      list_verdict m n nonzeros list ≡ accepted →
      state_fine (rules_of (pattern_of m n nonzeros list) (caps_in s)) m n nonzeros (record_of s) ≡ true →
      state_then s m n nonzeros list later ≡ later
  unfolding state_then
  then-later listed fine =
      rw (listed, refuse_no {test = not (state_fine (rules_of (pattern_of m n nonzeros list) (caps_in s)) m n nonzeros (record_of s))} State 0 (ap not fine))

  -- the state is refused
  pub then_unfit :
      (fine : Bool) (refusal : Refusal) → list_verdict m n nonzeros list ≡ accepted →
      fine ≡ state_fine (rules_of (pattern_of m n nonzeros list) (caps_in s)) m n nonzeros (record_of s) →
      refuse (not fine) State 0 ≡ Err refusal → state_then s m n nonzeros list later ≡ Err refusal
  unfolding state_then
  then_unfit fine refusal listed is refused =
      ap (λ (v : Verdict). v then later) (then_accepted _ listed ∙ ap (λ (b : Bool). refuse (not b) State 0) (sym is) ∙ refused)

  -- the list is refused
  pub then_unlisted : (refusal : Refusal) → list_verdict m n nonzeros list ≡ Err refusal → state_then s m n nonzeros list later ≡ Err refusal
  unfolding state_then
  then_unlisted refusal refused =
      ap
      (λ (v : Verdict).
      v
      then refuse (not (state_fine (rules_of (pattern_of m n nonzeros list) (caps_in s)) m n nonzeros (record_of s))) State 0
      then later)
      refused
