-- A refused call of the C function changes nothing, and neither does "none yet": with any answer but 0 both output slices are as they were.
-- Assumes nothing.
use mathlib.Core.List.{List}
use mathlib.Core.Path.{◌≡◌, refl}
use Prim.Native.Nat.{ℕ}
use Rattle.std.specs.Prelude.{Result, Ok, Err}
use Rattle.model.specs.declared.Refusal.{Refusal}
use Rattle.model.specs.declared.Caps.{Caps}
use Rattle.model.specs.declared.Search.{Search}
use Rattle.model.specs.declared.Shown.{Shown}
use Rattle.model.specs.declared.Shown.TheVariants as showing
use Rattle.model.specs.Refusal.{Verdict, reply_code}
use Rattle.model.specs.Calls.{show_call, show_parts, shows_reply, show_code}
use Rattle.model.proofs.Theorems.Refusals.{show_refused, show-none}
use Rattle.gulzoreno.specs.Host.{host_verdict, host_search, host_code_after, host_parts_after, figures_shown, host_figures_after, bipartition_code, bipartition_parts, bipartition_figures}

module _ (s : Search) (m n nonzeros : ℕ) (list parts figures : List ℕ) where
  -- by what is shown
  by_answer :
      (a : Result Shown Refusal) → show_call s m n nonzeros list parts ≡ a → (show_code a ≡ 0 → ⊥) →
      (show_parts s m n nonzeros list parts ≡ parts) × (figures_shown a s figures ≡ figures)
  unfolding show_code reply_code shows_reply figures_shown
  by_answer (Ok (showing.Split volume floor)) e h = absurd (h refl)
  by_answer (Ok (showing.NoneYet floor)) e h = (show-none s m n nonzeros list parts floor e, refl)
  by_answer (Err refusal) e h = ((show_refused s m n nonzeros list parts refusal.word refusal.place e).1, refl)

  -- by the checks before it
  by_verdict :
      (v : Verdict) → (host_code_after v (show_call s m n nonzeros list parts) ≡ 0 → ⊥) →
      (host_parts_after v (show_parts s m n nonzeros list parts) parts ≡ parts)
      × (host_figures_after v (show_call s m n nonzeros list parts) s figures ≡ figures)
  unfolding host_code_after host_parts_after host_figures_after
  by_verdict (Ok _) h = by_answer (show_call s m n nonzeros list parts) refl h
  by_verdict (Err refusal) h = (refl, refl)

pub bipartition_refused :
    (m n nonzeros : ℕ) (list : List ℕ) (caps : Caps) (budget : ℕ) (parts figures : List ℕ) →
    (bipartition_code m n nonzeros list caps budget parts figures ≡ 0 → ⊥) →
    (bipartition_parts m n nonzeros list caps budget parts figures ≡ parts)
    × (bipartition_figures m n nonzeros list caps budget parts figures ≡ figures)
unfolding bipartition_code bipartition_parts bipartition_figures
bipartition_refused m n nonzeros list caps budget parts figures h =
    by_verdict
    (host_search m n nonzeros list caps budget)
    m
    n
    nonzeros
    list
    parts
    figures
    (host_verdict m n nonzeros list caps budget parts figures)
    h
