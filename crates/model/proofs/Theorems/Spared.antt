-- Words that no check of a chain refuses with; the checks of a list refuse nothing for a cap.
-- Assumes nothing.
use Rattle.std.specs.Prelude.{Ok, Err}
use mathlib.Core.Bool.{Bool, true, false}
use mathlib.Core.List.{List}
use mathlib.Core.Path.{◌≡◌, refl, sym, ◌∙◌, ap}
use Prim.Native.Nat.{ℕ, zero, suc}
use lib.Dec.{eqb}
use borrow.Author.Tests.{eqb-false}
use Rattle.counting.specs.Tests.{◌or◌, pick}
use Rattle.counting.proofs.Joined.{never, clash, or_fails_left, or_fails_right}
use Rattle.model.specs.declared.Word.{Word}
use Rattle.model.specs.declared.Word.TheVariants.{TooBig, OffMatrix, ShortBuffer, Order, SplitNumber}
use Rattle.model.specs.Refusal.{Verdict, accepted, refused, refusal_number, refuse, ◌then◌, each_verdict}
use Rattle.model.specs.Calls.{sizes_verdict, entry_verdict, list_verdict}
use Rattle.model.proofs.Theorems.Checks.{one_refusal}

-- a verdict that refuses with no word that passes the test
pub record Spares (test : Word → Bool) (v : Verdict) : Type 0 where
  pub spared : (word : Word) (place : ℕ) → v ≡ refused word place → test word ≡ false

module _ {test : Word → Bool} where
  pub accepted_spares : Spares test accepted
  accepted_spares = record { spared = λ word place e. never (cc) }

  pub refused_spares : (word : Word) (place : ℕ) → test word ≡ false → Spares test (refused word place)
  refused_spares word place h = record { spared = λ other at e. ap test (sym (one_refusal e).0) ∙ h }

  pub refuse_spares : (failed : Bool) (word : Word) (place : ℕ) → test word ≡ false → Spares test (refuse failed word place)
  refuse_spares true word place h = refused_spares word place h
  refuse_spares false word place h = accepted_spares

  then_by : (v w : Verdict) → Spares test v → Spares test w → Spares test (v then w)
  then_by (Ok _) w first second = second
  then_by (Err refusal) w first second = first

  infixl 20 ◌also◌
  -- one check after another
  pub ◌also◌ : {v w : Verdict} → Spares test v → Spares test w → Spares test (v then w)
  first also second = then_by _ _ first second

  pub pick_spares : (b : Bool) (v w : Verdict) → Spares test v → Spares test w → Spares test (pick b v w)
  unfolding pick
  pick_spares true v w first second = first
  pick_spares false v w first second = second

  pub each_spares : (check : ℕ → Verdict) (n : ℕ) → ((t : ℕ) → Spares test (check t)) → Spares test (each_verdict check n)
  unfolding each_verdict
  each_spares check zero h = accepted_spares
  each_spares check (suc n) h = each_spares check n h also h n

  -- a refusal with a word that the checks before and behind spare is that of the check between them
  pub between_spared :
      (v w : Verdict) (failed : Bool) (word : Word) (place : ℕ) (other : Word) (at : ℕ) → Spares test v → Spares test w →
      v then (refuse failed word place then w) ≡ refused other at → test other ≡ true → (failed ≡ true) × (word ≡ other)
  between_spared (Ok _) w true word place other at before behind e h = (refl, (one_refusal e).0)
  between_spared (Ok _) w false word place other at before behind e h = clash h (behind.spared other at e)
  between_spared (Err refusal) w refused word place other at before behind e h = clash h (before.spared other at e)

-- 11 and 12, the refusals for a cap
unfoldable pub for_cap : ℕ → Bool
for_cap number = eqb number 11 or eqb number 12

abbrev pub word_for_cap : Word → Bool
word_for_cap word = for_cap (refusal_number word)

pub cap_words : (number : ℕ) → for_cap number ≡ false → (number ≡ 11 → ⊥) × (number ≡ 12 → ⊥)
unfolding for_cap
cap_words number h =
    (eqb-false number 11 (or_fails_left (eqb number 11) (eqb number 12) h), eqb-false number 12 (or_fails_right (eqb number 11) (eqb number 12) h))

-- the checks of a list refuse nothing for a cap
entry_spares : (m n : ℕ) (list : List ℕ) (t : ℕ) → Spares word_for_cap (entry_verdict m n list t)
unfolding entry_verdict for_cap ◌or◌
entry_spares m n list t =
    refuse_spares _ SplitNumber _ refl also refuse_spares _ OffMatrix _ refl also refuse_spares _ Order _ refl

pub sizes_spare : (m n nonzeros : ℕ) → Spares word_for_cap (sizes_verdict m n nonzeros)
unfolding sizes_verdict for_cap ◌or◌
sizes_spare m n nonzeros = refuse_spares _ TooBig _ refl

pub list_spares : (m n nonzeros : ℕ) (list : List ℕ) → Spares word_for_cap (list_verdict m n nonzeros list)
unfolding list_verdict for_cap ◌or◌
list_spares m n nonzeros list =
    sizes_spare m n nonzeros also refuse_spares _ ShortBuffer _ refl also each_spares (entry_verdict m n list) nonzeros (entry_spares m n list)
