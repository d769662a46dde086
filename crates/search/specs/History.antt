-- Demand 3's list: runs and showings from a fresh search, refused ones included. A history is made of calls that meet their contracts:
-- the definitions `open_call`, `run_call`, `show_call` and `show_parts`, which the functions' `ensures` cite. Each call starts from the
-- search that the one before it left.
-- Assumes nothing.
use Rattle.std.specs.Prelude.{List, ◌≡◌, ℕ, ◌+◌, ◌*◌, ◌<◌, get_or}
use Rattle.std.specs.Prelude.{Result, Ok, Err}
use Rattle.model.specs.declared.Refusal.{Refusal}
use Rattle.model.specs.Refusal.{Verdict, accepted, refused}
use Rattle.model.specs.declared.Caps.{Caps}
use Rattle.model.specs.declared.Search.{Search}
use Rattle.model.specs.declared.Ended.{Ended}
use Rattle.model.specs.declared.Ran.{Ran}
use Rattle.model.specs.declared.Shown.{Shown}
use Rattle.model.specs.Pattern.{entry_bytes}
use Rattle.model.specs.Walk.{Record}
use Rattle.model.specs.Calls.{list_verdict, run_verdict, show_verdict, open_call, run_call, show_call, show_parts}

-- the budget of a run that was accepted; a run not accepted adds no tries
unfoldable pub accepted_budget : Result Ended Refusal → ℕ → ℕ
accepted_budget (Ok ended) budget = budget
accepted_budget (Err refusal) budget = 0

-- what a call is handed: sizes and a slice, whatever they are; but from the opening on nothing writes the pattern's list, so a slice that
-- passes the list's checks under the pattern's own sizes begins with the pattern's bytes
pub record Handed (m n nonzeros : ℕ) (list : List ℕ) : Type 0 where
  pub rows : ℕ
  pub columns : ℕ
  pub size : ℕ
  pub slice : List ℕ
  pub same_bytes :
      rows ≡ m → columns ≡ n → size ≡ nonzeros → list_verdict rows columns size slice ≡ accepted →
      (i : ℕ) → i < entry_bytes * nonzeros → get_or slice i 0 ≡ get_or list i 0

-- such as the pattern's sizes with any slice that begins with its bytes
abbrev pub handed_slice :
    (m n nonzeros : ℕ) (list slice : List ℕ) →
    ((i : ℕ) → i < entry_bytes * nonzeros → get_or slice i 0 ≡ get_or list i 0) → Handed m n nonzeros list
handed_slice m n nonzeros list slice same =
    record { rows = m; columns = n; size = nonzeros; slice = slice; same_bytes = λ rows columns size accepted. same }

-- a run and a showing of what is handed: what they answer, and the parts buffer that a showing leaves
abbrev pub run_of : {m n nonzeros : ℕ} {list : List ℕ} → Search → Handed m n nonzeros list → ℕ → Ran
run_of s handed budget = run_call s handed.rows handed.columns handed.size handed.slice budget

abbrev pub show_of : {m n nonzeros : ℕ} {list : List ℕ} → Search → Handed m n nonzeros list → List ℕ → Result Shown Refusal
show_of s handed parts = show_call s handed.rows handed.columns handed.size handed.slice parts

abbrev pub parts_of : {m n nonzeros : ℕ} {list : List ℕ} → Search → Handed m n nonzeros list → List ℕ → List ℕ
parts_of s handed parts = show_parts s handed.rows handed.columns handed.size handed.slice parts

-- the refusal table's verdicts on them, read with a record
abbrev pub run_table : {m n nonzeros : ℕ} {list : List ℕ} → Record → Handed m n nonzeros list → ℕ → Verdict
run_table r handed budget = run_verdict r handed.rows handed.columns handed.size handed.slice budget

abbrev pub show_table : {m n nonzeros : ℕ} {list : List ℕ} → Record → Handed m n nonzeros list → List ℕ → Verdict
show_table r handed parts = show_verdict r handed.rows handed.columns handed.size handed.slice parts

-- history: an accepted opening, then runs and showings, with the search that they leave and the sum of the accepted budgets
pub data History (m n nonzeros : ℕ) (list : List ℕ) (caps : Caps) : Search → ℕ → Type 0 where
  opened :
      (search : Search) → open_call m n nonzeros list caps ≡ Ok search →
      History m n nonzeros list caps search 0
  ran :
      {s : Search} {total : ℕ} → History m n nonzeros list caps s total →
      (handed : Handed m n nonzeros list) (budget : ℕ) (answer : Ran) →
      answer ≡ run_of s handed budget →
      History m n nonzeros list caps answer.search (total + accepted_budget answer.answer budget)
  showed :
      {s : Search} {total : ℕ} → History m n nonzeros list caps s total →
      (handed : Handed m n nonzeros list) (parts after : List ℕ) (answer : Result Shown Refusal) →
      answer ≡ show_of s handed parts →
      after ≡ parts_of s handed parts →
      History m n nonzeros list caps s total
