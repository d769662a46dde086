-- The place of a refusal of a list, an opening or a showing is a nonzero number or 0, and so at most the limit on nonzeros.
-- Assumes nothing.
use Rattle.std.specs.Prelude.{Ok, Err}
use mathlib.Core.Bool.{Bool, true, false, not}
use mathlib.Core.List.{List}
use mathlib.Core.Path.{◌≡◌, refl}
use Prim.Native.Nat.{ℕ, zero, suc, ◌+◌, ◌*◌, ◌≤◌}
use native.Mathlib.Omega.{arith}
use lib.Dec.{ltb}
use lib.ListN.{length}
use Rattle.counting.specs.Tests.{◌or◌}
use Rattle.counting.proofs.Joined.{never}
use Rattle.model.specs.declared.Refusal.{Refusal}
use Rattle.model.specs.declared.Word.{Word}
use Rattle.model.specs.declared.Word.TheVariants.{TooBig, OffMatrix, ShortBuffer, Order, Cap, NoSplit, Budget, State, SplitNumber}
use Rattle.model.specs.declared.Caps.{Caps}
use Rattle.model.specs.declared.Search.{Search}
use Rattle.model.specs.Limits.{nonzero_limit, budget_limit}
use Rattle.model.specs.Refusal.{Verdict, accepted, refuse, ◌then◌, each_verdict}
use Rattle.model.specs.Pattern.{entry_bytes, pattern_of}
use Rattle.model.specs.Split.{caps_outside}
use Rattle.model.specs.Walk.{Record, rules_of}
use Rattle.model.specs.State.{record_of, state_fine}
use Rattle.model.specs.Calls.{sizes_verdict, rises, split_number, off_matrix, entry_verdict, entries_verdict, list_verdict, open_verdict, show_verdict, shown_after, show_call}
use Rattle.model.proofs.Theorems.Checks.{then-first, refused_by, nonzeros_small}
use Rattle.gulzoreno.specs.Figures.{figures_bytes}
use Rattle.gulzoreno.specs.Host.{output_verdict, host_verdict}

-- where this verdict refuses, the place is at most a limit
abbrev PlaceTo : ℕ → Verdict → Type 0
PlaceTo limit (Ok _) = Unit {0}
PlaceTo limit (Err refusal) = refusal.place ≤ limit

place_to : (limit : ℕ) (v : Verdict) {refusal : Refusal} → PlaceTo limit v → v ≡ Err refusal → refusal.place ≤ limit
place_to limit (Ok _) h e = never (cc)
place_to limit (Err other) {refusal = refusal} h e = let same : refusal ≡ other = cc in rw same h

-- one check, and a check after another
refuse_to : (limit : ℕ) (test : Bool) (word : Word) (place : ℕ) → place ≤ limit → PlaceTo limit (refuse test word place)
refuse_to limit true word place h = h
refuse_to limit false word place h = tt

then_to : (limit : ℕ) (v w : Verdict) → PlaceTo limit v → (v ≡ accepted → PlaceTo limit w) → PlaceTo limit (v then w)
then_to limit (Ok _) w a b = b refl
then_to limit (Err refusal) w a b = a

module _ (m n : ℕ) (list : List ℕ) where
  entry_to : (t : ℕ) → PlaceTo t (entry_verdict m n list t)
  unfolding entry_verdict
  entry_to t =
      then_to
      t
      (refuse (split_number list t) SplitNumber t then refuse (off_matrix m n list t) OffMatrix t)
      (refuse (not (rises list t)) Order t)
      (then_to
      t
      (refuse (split_number list t) SplitNumber t)
      (refuse (off_matrix m n list t) OffMatrix t)
      (refuse_to t (split_number list t) SplitNumber t (omega arith))
      (λ e. refuse_to t (off_matrix m n list t) OffMatrix t (omega arith)))
      (λ e. refuse_to t (not (rises list t)) Order t (omega arith))

  entries_to : (size limit : ℕ) → size ≤ limit → PlaceTo limit (entries_verdict m n list size)
  unfolding each_verdict
  entries_to zero limit h = tt
  entries_to (suc t) limit h =
      then_to
      limit
      (entries_verdict m n list t)
      (entry_verdict m n list t)
      (entries_to t limit (omega arith))
      (λ e. raised_to t limit (entry_verdict m n list t) (omega arith) (entry_to t))
    where
      raised_to : (a b : ℕ) (v : Verdict) → a ≤ b → PlaceTo a v → PlaceTo b v
      raised_to a b (Ok _) l p = tt
      raised_to a b (Err refusal) l p = omega arith

module _ (m n nonzeros : ℕ) (list : List ℕ) where
  sizes_to : PlaceTo nonzero_limit (sizes_verdict m n nonzeros)
  unfolding sizes_verdict
  sizes_to = refuse_to nonzero_limit _ TooBig 0 (omega arith)

  list_to : PlaceTo nonzero_limit (list_verdict m n nonzeros list)
  unfolding list_verdict
  list_to =
      then_to
      nonzero_limit
      (sizes_verdict m n nonzeros then refuse (ltb (length list) (entry_bytes * nonzeros)) ShortBuffer 0)
      (entries_verdict m n list nonzeros)
      (then_to nonzero_limit (sizes_verdict m n nonzeros) (refuse (ltb (length list) (entry_bytes * nonzeros)) ShortBuffer 0) sizes_to (λ e. refuse_to nonzero_limit (ltb (length list) (entry_bytes * nonzeros)) ShortBuffer 0 (omega arith)))
      (λ e. entries_to m n list nonzeros nonzero_limit (nonzeros_small m n nonzeros (then-first (sizes_verdict m n nonzeros) (refuse (ltb (length list) (entry_bytes * nonzeros)) ShortBuffer 0) e)))

  -- the C function's checks
  open_to : (caps : Caps) → PlaceTo nonzero_limit (open_verdict m n nonzeros list caps)
  unfolding open_verdict
  open_to caps =
      then_to
      nonzero_limit
      (list_verdict m n nonzeros list then refuse (caps_outside caps) Cap 0)
      (refuse (ltb (caps.cap0 + caps.cap1) nonzeros) NoSplit 0)
      (then_to nonzero_limit (list_verdict m n nonzeros list) (refuse (caps_outside caps) Cap 0) list_to (λ e. refuse_to nonzero_limit (caps_outside caps) Cap 0 (omega arith)))
      (λ e. refuse_to nonzero_limit (ltb (caps.cap0 + caps.cap1) nonzeros) NoSplit 0 (omega arith))

  output_to : (budget : ℕ) (parts figures : List ℕ) → PlaceTo nonzero_limit (output_verdict nonzeros budget parts figures)
  unfolding output_verdict
  output_to budget parts figures =
      then_to
      nonzero_limit
      (refuse (ltb budget_limit budget) Budget 0)
      (refuse (ltb (length parts) nonzeros or ltb (length figures) figures_bytes) ShortBuffer 0)
      (refuse_to nonzero_limit (ltb budget_limit budget) Budget 0 (omega arith))
      (λ e. refuse_to nonzero_limit (ltb (length parts) nonzeros or ltb (length figures) figures_bytes) ShortBuffer 0 (omega arith))

  pub host_place :
      (caps : Caps) (budget : ℕ) (parts figures : List ℕ) {refusal : Refusal} →
      host_verdict m n nonzeros list caps budget parts figures ≡ Err refusal → refusal.place ≤ nonzero_limit
  unfolding host_verdict
  host_place caps budget parts figures e =
      place_to
      nonzero_limit
      (open_verdict m n nonzeros list caps then output_verdict nonzeros budget parts figures)
      (then_to nonzero_limit (open_verdict m n nonzeros list caps) (output_verdict nonzeros budget parts figures) (open_to caps) (λ f. output_to budget parts figures))
      e

  -- a showing's checks
  show_to : (r : Record) (parts : List ℕ) → PlaceTo nonzero_limit (show_verdict r m n nonzeros list parts)
  unfolding show_verdict
  show_to r parts =
      let fine = state_fine (rules_of (pattern_of m n nonzeros list) r.caps) m n nonzeros r in
      then_to
      nonzero_limit
      (list_verdict m n nonzeros list then refuse (not fine) State 0)
      (refuse (ltb (length parts) nonzeros) ShortBuffer 0)
      (then_to nonzero_limit (list_verdict m n nonzeros list) (refuse (not fine) State 0) list_to (λ e. refuse_to nonzero_limit (not fine) State 0 (omega arith)))
      (λ e. refuse_to nonzero_limit (ltb (length parts) nonzeros) ShortBuffer 0 (omega arith))

  -- a refused showing
  pub show-place :
      (s : Search) (parts : List ℕ) {refusal : Refusal} →
      show_call s m n nonzeros list parts ≡ Err refusal → refusal.place ≤ nonzero_limit
  unfolding show_call shown_after
  show-place s parts e =
      place_to
      nonzero_limit
      (show_verdict (record_of s) m n nonzeros list parts)
      (show_to (record_of s) parts)
      (refused_by _ _ e)
