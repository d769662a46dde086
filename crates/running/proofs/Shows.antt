-- What a showing answers and leaves in its parts, by the verdicts on its list, its state and its parts.
-- Assumes nothing.
use mathlib.Core.Bool.{Bool, true, false}
use mathlib.Core.List.{List, [], ◌∷◌}
use mathlib.Core.Option.{Option, none}
use mathlib.Core.Path.{◌≡◌, refl, sym, ◌∙◌, ap}
use Prim.Native.Nat.{ℕ}
use lib.ListN.{length}
use lib.Dec.{ltb}
use Rattle.counting.proofs.Joined.{pick_true}
use Rattle.std.specs.Prelude.{Result, Ok, Err}
use Rattle.model.specs.declared.Refusal.{Refusal}
use Rattle.model.specs.Refusal.{Verdict, accepted, refuse}
use Rattle.model.specs.declared.Word.TheVariants.{ShortBuffer}
use Rattle.model.specs.declared.Shown.{Shown}
use Rattle.model.specs.declared.Shown.TheVariants as showing
use Rattle.model.specs.declared.Search.{Search}
use Rattle.model.specs.Pattern.{Pattern, pattern_of}
use Rattle.model.specs.Split.{volume}
use Rattle.model.specs.Walk.{Rules, rules_of, beginnings_later, open_markings, least_bound, floor}
use Rattle.model.specs.State.{caps_in, marks_in, best_in, record_of, state_fine}
use Rattle.model.specs.Calls.{list_verdict, show_verdict, shown_from, shown, part_bytes, shown_parts, shown_after, parts_after, show_call, show_parts}
use Rattle.model.proofs.Theorems.Checks.{then_accepted}
use Rattle.state.proofs.Checks.{state_then, then-later}
use Rattle.state.proofs.Accepting.{best_some}

-- the floor of a complete search
pub floor-done : (R : Rules) (s : Search) → s.complete ≡ true → s.best_count ≡ floor R (record_of s)
unfolding floor open_markings least_bound record_of
floor-done R s h = sym (ap (least_bound R s.best_count) (pick_true [] (marks_in s.trail ∷ beginnings_later R.one_first (marks_in s.trail)) h))

best_none : (s : Search) → s.found ≡ false → (record_of s).best ≡ none
unfolding record_of best_in
best_none s h = ap (λ (b : Bool). best_in b s.best) h

-- an accepted showing
module _ (s : Search) (P : Pattern) where
  pub shown-split :
      (vol low : ℕ) → s.found ≡ true → vol ≡ volume P (shown_from P (caps_in s) (marks_in s.best)) →
      low ≡ floor (rules_of P (caps_in s)) (record_of s) →
      showing.Split vol low ≡ shown P (caps_in s) (record_of s).best (floor (rules_of P (caps_in s)) (record_of s))
  unfolding shown
  shown-split vol low h a b =
      ap (λ (x : ℕ). showing.Split x low) a
      ∙ ap (showing.Split (volume P (shown_from P (caps_in s) (marks_in s.best)))) b
      ∙ ap (λ (o : Option (List ℕ)). shown P (caps_in s) o (floor (rules_of P (caps_in s)) (record_of s))) (sym (best_some s h))

  pub shown-none :
      (low : ℕ) → s.found ≡ false → low ≡ floor (rules_of P (caps_in s)) (record_of s) →
      showing.NoneYet low ≡ shown P (caps_in s) (record_of s).best (floor (rules_of P (caps_in s)) (record_of s))
  unfolding shown
  shown-none low h b =
      ap showing.NoneYet b
      ∙ ap (λ (o : Option (List ℕ)). shown P (caps_in s) o (floor (rules_of P (caps_in s)) (record_of s))) (sym (best_none s h))

  pub parts_split :
      (size : ℕ) (parts new : List ℕ) → P.size ≡ size → s.found ≡ true →
      new ≡ part_bytes (shown_from P (caps_in s) (marks_in s.best)) size parts → new ≡ shown_parts P (caps_in s) (record_of s).best parts
  unfolding shown_parts
  parts_split size parts new sized h a =
      a
      ∙ ap (λ (x : ℕ). part_bytes (shown_from P (caps_in s) (marks_in s.best)) x parts) (sym sized)
      ∙ ap (λ (o : Option (List ℕ)). shown_parts P (caps_in s) o parts) (sym (best_some s h))

  pub parts_none : (parts : List ℕ) → s.found ≡ false → parts ≡ shown_parts P (caps_in s) (record_of s).best parts
  unfolding shown_parts
  parts_none parts h = ap (λ (o : Option (List ℕ)). shown_parts P (caps_in s) o parts) (sym (best_none s h))

-- the whole call, by its checks
module _ (m n nonzeros : ℕ) (list parts : List ℕ) (s : Search) where
  pub show_checks : state_then s m n nonzeros list (refuse (ltb (length parts) nonzeros) ShortBuffer 0) ≡ show_verdict (record_of s) m n nonzeros list parts
  unfolding show_verdict state_then record_of
  show_checks = refl

  -- a showing of a state that is not refused, by the check of the room
  module _
      (listed : list_verdict m n nonzeros list ≡ accepted)
      (fine : state_fine (rules_of (pattern_of m n nonzeros list) (caps_in s)) m n nonzeros (record_of s) ≡ true) where
    room-left : refuse (ltb (length parts) nonzeros) ShortBuffer 0 ≡ show_verdict (record_of s) m n nonzeros list parts
    room-left = sym (then-later s m n nonzeros list (refuse (ltb (length parts) nonzeros) ShortBuffer 0) listed fine) ∙ show_checks

    pub show-fine :
        (a : Result Shown Refusal) → a ≡ shown_after (refuse (ltb (length parts) nonzeros) ShortBuffer 0) (record_of s) (pattern_of m n nonzeros list) →
        a ≡ show_call s m n nonzeros list parts
    unfolding show_call
    show-fine a h = h ∙ ap (λ (v : Verdict). shown_after v (record_of s) (pattern_of m n nonzeros list)) room-left

    pub parts_fine :
        (new : List ℕ) → new ≡ parts_after (refuse (ltb (length parts) nonzeros) ShortBuffer 0) (record_of s) (pattern_of m n nonzeros list) parts →
        new ≡ show_parts s m n nonzeros list parts
    unfolding show_parts
    parts_fine new h = h ∙ ap (λ (v : Verdict). parts_after v (record_of s) (pattern_of m n nonzeros list) parts) room-left

  -- past the check of the state they come to that of the room
  pub show_room :
      (size : ℕ) (v : Verdict) → list_verdict m n nonzeros list ≡ accepted →
      state_fine (rules_of (pattern_of m n nonzeros list) (caps_in s)) m n nonzeros (record_of s) ≡ true → size ≡ nonzeros →
      v ≡ refuse (ltb (length parts) size) ShortBuffer 0 → show_verdict (record_of s) m n nonzeros list parts ≡ v
  show_room size v listed fine all is =
      sym show_checks
      ∙ then-later s m n nonzeros list (refuse (ltb (length parts) nonzeros) ShortBuffer 0) listed fine
      ∙ ap (λ (k : ℕ). refuse (ltb (length parts) k) ShortBuffer 0) (sym all)
      ∙ sym is

  module _ (fine : show_verdict (record_of s) m n nonzeros list parts ≡ accepted) where
    pub show_made :
        (a : Shown) → a ≡ shown (pattern_of m n nonzeros list) (caps_in s) (record_of s).best (floor (rules_of (pattern_of m n nonzeros list) (caps_in s)) (record_of s)) →
        Ok a ≡ show_call s m n nonzeros list parts
    unfolding show_call shown_after record_of
    show_made a h = ap Ok h ∙ sym (then_accepted _ fine)

    pub parts_made :
        (new : List ℕ) → new ≡ shown_parts (pattern_of m n nonzeros list) (caps_in s) (record_of s).best parts →
        new ≡ show_parts s m n nonzeros list parts
    unfolding show_parts parts_after record_of
    parts_made new h = h ∙ ap (λ (v : Verdict). parts_after v (record_of s) (pattern_of m n nonzeros list) parts) (sym fine)

  module _ (refusal : Refusal) (e : show_verdict (record_of s) m n nonzeros list parts ≡ Err refusal) where
    pub show_refused : Err refusal ≡ show_call s m n nonzeros list parts
    unfolding show_call shown_after
    show_refused = ap (λ (v : Verdict). shown_after v (record_of s) (pattern_of m n nonzeros list)) (sym e)

    pub parts_kept : parts ≡ show_parts s m n nonzeros list parts
    unfolding show_parts parts_after
    parts_kept = ap (λ (v : Verdict). parts_after v (record_of s) (pattern_of m n nonzeros list) parts) (sym e)
