-- What a call is handed: where the table, read with a record of the walk, refuses neither list nor state, its pattern is the opening's.
-- Assumes nothing.
use Rattle.std.specs.Prelude.{Ok, Err}
use mathlib.Core.Bool.{not}
use mathlib.Core.List.{List}
use mathlib.Core.Path.{◌≡◌, refl, sym, ◌∙◌}
use Prim.Native.Nat.{ℕ}
use borrow.Author.Tests.{not-false}
use Rattle.model.specs.declared.Word.TheVariants.{State}
use Rattle.model.specs.declared.Caps.{Caps}
use Rattle.model.specs.declared.Search.{Search}
use Rattle.model.specs.Refusal.{Verdict, accepted, refused, refuse, ◌then◌}
use Rattle.model.specs.Pattern.{Pattern, pattern_of}
use Rattle.model.specs.Walk.{Record, rules_of}
use Rattle.model.specs.State.{state_fine}
use Rattle.model.specs.Calls.{list_verdict, ran_after, shown_after, parts_after}
use Rattle.model.proofs.Walk.Reached.{For}
use Rattle.model.proofs.Alike.Patterns.{Alike, alike_lists}
use Rattle.model.proofs.Alike.Calls.{alike_ran, alike_shown-answer, alike_parts}
use Rattle.model.proofs.Theorems.Checks.{then-first, then-second, refuse-not}
use Rattle.running.proofs.Budgets.{state_sizes}
use Rattle.search.specs.History.{Handed}

module _ {m n nonzeros : ℕ} {list : List ℕ} (handed : Handed m n nonzeros list) (r : Record) (caps : Caps) (walks : For m n nonzeros caps r) where
  -- the checks of the list and of the state
  abbrev front : Verdict
  front =
      list_verdict handed.rows handed.columns handed.size handed.slice
      then refuse
      (not (state_fine (rules_of (pattern_of handed.rows handed.columns handed.size handed.slice) r.caps) handed.rows handed.columns handed.size r))
      State
      0

  -- a slice that passes them holds the pattern
  pub handed_alike :
      front ≡ accepted →
      Alike (pattern_of handed.rows handed.columns handed.size handed.slice) (pattern_of m n nonzeros list)
  handed_alike h =
      let fine = not-false _ (refuse-not _ State 0 (then-second _ _ h)) in
      let sizes = state_sizes _ handed.rows handed.columns handed.size r fine in
      let rows : handed.rows ≡ m = sym sizes.0 ∙ walks.rows in
      let columns : handed.columns ≡ n = sym sizes.1 ∙ walks.columns in
      let size : handed.size ≡ nonzeros = sym sizes.2 ∙ walks.size in
      rw
      (rows, columns, size)
      (alike_lists m n nonzeros list handed.slice (handed.same_bytes rows columns size (then-first _ _ h)))

-- where nothing is refused the two patterns are alike, and a refusal is the same for any: what a run answers
pub ran_same :
    (P Q : Pattern) (v : Verdict) (s : Search) (budget : ℕ) → (v ≡ accepted → Alike P Q) →
    ran_after v s P budget ≡ ran_after v s Q budget
unfolding ran_after
ran_same P Q (Ok _) s budget a = alike_ran (a refl) accepted s budget
ran_same P Q (Err refusal) s budget a = refl

-- what a showing answers
pub shown_same :
    (P Q : Pattern) (v : Verdict) (r : Record) → (v ≡ accepted → Alike P Q) → shown_after v r P ≡ shown_after v r Q
unfolding shown_after
shown_same P Q (Ok _) r a = alike_shown-answer (a refl) accepted r
shown_same P Q (Err refusal) r a = refl

-- and its parts
pub parts_same :
    (P Q : Pattern) (v : Verdict) (r : Record) (parts : List ℕ) → (v ≡ accepted → Alike P Q) →
    parts_after v r P parts ≡ parts_after v r Q parts
unfolding parts_after
parts_same P Q (Ok _) r parts a = alike_parts (a refl) accepted r parts
parts_same P Q (Err refusal) r parts a = refl
