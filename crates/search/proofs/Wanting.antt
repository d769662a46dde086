-- The opening of demand 3: accepted exactly when, within document 01's limits, a split meets both caps, and refused under 12 exactly when,
-- within them, none does. Refusal 12 is given only within the limits, since no check placed before it has its word.
-- Assumes nothing.
use Rattle.std.specs.Prelude.{Ok, Err}
use mathlib.Core.Bool.{Bool, true, false}
use mathlib.Core.List.{List}
use mathlib.Core.Logic.{◌↔◌}
use mathlib.Core.Path.{◌≡◌, refl, sym, ◌∙◌}
use Prim.Native.Nat.{ℕ, ◌+◌}
use native.Mathlib.Omega.{arith}
use lib.Dec.{ltb}
use borrow.Author.Tests.{ltb-true, ltb-false, le-ltb}
use Rattle.counting.specs.Tests.{◌or◌}
use Rattle.counting.proofs.Joined.{no_way, clash, passes, never}
use Rattle.model.specs.declared.Word.TheVariants.{Cap, NoSplit}
use Rattle.model.specs.declared.Caps.{Caps}
use Rattle.model.specs.Refusal.{Verdict, accepted, refused, refuse, ◌then◌}
use Rattle.model.specs.Pattern.{pattern_of}
use Rattle.model.specs.Split.{caps_outside}
use Rattle.model.specs.Calls.{list_verdict, open_verdict}
use Rattle.model.proofs.Theorems.Accepted.{open_accepted}
use Rattle.model.proofs.Theorems.Checks.{refuse_no, then_accepted, one_refusal}
use Rattle.model.proofs.Theorems.Spared.{Spares, for_cap, word_for_cap, list_spares}
use Rattle.model.proofs.Theorems.Least.{split_exists}
use Rattle.search.specs.Demand.{Within, Splits}

-- refusal 12 behind a list's checks and that of the caps
behind :
    (v : Verdict) (over short : Bool) → Spares word_for_cap v → v then refuse over Cap 0 then refuse short NoSplit 0 ≡ refused NoSplit 0 →
    (v ≡ accepted) × (over ≡ false)
unfolding for_cap ◌or◌
behind (Ok _) true short s e = let same : Cap ≡ NoSplit = (one_refusal e).0 in never (cc)
behind (Ok _) false short s e = (refl, refl)
behind (Err refusal) over short s e = clash refl (s.spared NoSplit 0 e)

-- an opening refused under 12 is within the limits
refused_within :
    (m n nonzeros : ℕ) (list : List ℕ) (caps : Caps) → open_verdict m n nonzeros list caps ≡ refused NoSplit 0 →
    Within m n nonzeros list caps
unfolding open_verdict
refused_within m n nonzeros list caps e =
    let w = behind (list_verdict m n nonzeros list) (caps_outside caps) (ltb (caps.cap0 + caps.cap1) nonzeros) (list_spares m n nonzeros list) e in
    record { listed = w.0; capped = w.1 }

-- within the limits only 12 can refuse the opening
within_verdict :
    (m n nonzeros : ℕ) (list : List ℕ) (caps : Caps) → Within m n nonzeros list caps →
    open_verdict m n nonzeros list caps ≡ refuse (ltb (caps.cap0 + caps.cap1) nonzeros) NoSplit 0
unfolding open_verdict
within_verdict m n nonzeros list caps w =
    then_accepted _ (then_accepted _ w.listed ∙ refuse_no Cap 0 w.capped)

-- the refusal for want of a split
refused_exactly : (over : Bool) → (refuse over NoSplit 0 ≡ refused NoSplit 0) ↔ (over ≡ true)
refused_exactly true = ((λ e. refl), (λ e. refl))
refused_exactly false = ((λ e. never (cc)), (λ e. clash e refl))

accepted_exactly : (over : Bool) → (refuse over NoSplit 0 ≡ accepted) ↔ (over ≡ false)
accepted_exactly true = ((λ e. never (cc)), (λ e. clash refl e))
accepted_exactly false = ((λ e. refl), (λ e. refl))

-- an opening is accepted exactly when, within the limits, a split meets both caps
pub accepts_exactly :
    (m n nonzeros : ℕ) (list : List ℕ) (caps : Caps) →
    (open_verdict m n nonzeros list caps ≡ accepted) ↔ (Within m n nonzeros list caps × Splits (pattern_of m n nonzeros list) caps)
unfolding pattern_of
accepts_exactly m n nonzeros list caps = (
  (λ a.
      let fine = open_accepted m n nonzeros list caps a in
      (record { listed = fine.listed; capped = fine.caps_to }, (split_exists (pattern_of m n nonzeros list) caps).1 fine.enough)),
  (λ w.
      within_verdict m n nonzeros list caps w.0
      ∙ (accepted_exactly (ltb (caps.cap0 + caps.cap1) nonzeros)).1 (le-ltb (caps.cap0 + caps.cap1) nonzeros ((split_exists (pattern_of m n nonzeros list) caps).0 w.1))),
)

-- and refused under 12 exactly when, within them, none does
pub refuses_exactly :
    (m n nonzeros : ℕ) (list : List ℕ) (caps : Caps) →
    (open_verdict m n nonzeros list caps ≡ refused NoSplit 0)
    ↔ (Within m n nonzeros list caps × (Splits (pattern_of m n nonzeros list) caps → ⊥))
unfolding pattern_of
refuses_exactly m n nonzeros list caps = (
  (λ a.
      let w = refused_within m n nonzeros list caps a in
      let e = within_verdict m n nonzeros list caps w in (
        w,
        (λ σ.
            let over = ltb-true (caps.cap0 + caps.cap1) nonzeros ((refused_exactly (ltb (caps.cap0 + caps.cap1) nonzeros)).0 (sym e ∙ a)) in
            let few = (split_exists (pattern_of m n nonzeros list) caps).0 σ in
            no_way (omega arith)),
      )),
  (λ w.
      within_verdict m n nonzeros list caps w.0
      ∙ (refused_exactly (ltb (caps.cap0 + caps.cap1) nonzeros)).1 (passes
      (ltb (caps.cap0 + caps.cap1) nonzeros)
      (λ under. w.1 ((split_exists (pattern_of m n nonzeros list) caps).1 (ltb-false (caps.cap0 + caps.cap1) nonzeros under))))),
)
