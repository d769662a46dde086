-- Laws of what an opening answers, by its verdict.
-- Assumes nothing.
use Rattle.std.specs.Prelude.{Ok}
use mathlib.Core.List.{List}
use mathlib.Core.Path.{◌≡◌, sym, ◌∙◌, ap}
use Prim.Native.Nat.{ℕ}
use Rattle.model.specs.declared.Word.{Word}
use Rattle.model.specs.Refusal.{accepted, refused}
use Rattle.model.specs.declared.Caps.{Caps}
use Rattle.model.specs.declared.Search.{Search}
use Rattle.model.specs.Pattern.{pattern_of, line_total}
use Rattle.model.specs.Walk.{fresh, fresh_of}
use Rattle.model.specs.State.{search_of, no_record}
use Rattle.model.specs.Calls.{open_verdict, open_call, opened_search}
use Rattle.model.proofs.Theorems.Checks.{then_accepted, then_refused}

-- an accepted opening answers a fresh search
pub open_answer :
    (m n nonzeros : ℕ) (list : List ℕ) (caps : Caps) (k : ℕ) (s : Search) →
    open_verdict m n nonzeros list caps ≡ accepted → k ≡ line_total (pattern_of m n nonzeros list) →
    s ≡ search_of (fresh m n nonzeros caps k) → Ok s ≡ open_call m n nonzeros list caps
unfolding open_call fresh_of pattern_of
open_answer m n nonzeros list caps k s h e d =
    ap Ok (d ∙ ap (λ (j : ℕ). search_of (fresh m n nonzeros caps j)) e) ∙ sym (then_accepted _ h)

-- a refused one answers no search: the one with nothing in it stands there
pub open_refused :
    (m n nonzeros : ℕ) (list : List ℕ) (caps : Caps) (word : Word) (place : ℕ) →
    open_verdict m n nonzeros list caps ≡ refused word place →
    (open_call m n nonzeros list caps ≡ refused word place)
    × (opened_search (open_call m n nonzeros list caps) ≡ search_of no_record)
unfolding open_call
open_refused m n nonzeros list caps word place h =
    let e = then_refused (Ok (search_of (fresh_of (pattern_of m n nonzeros list) caps))) h in
    (e, ap opened_search e)
