-- A run on a search that is lent is a step of a history: its contract is all that demand 3 asks of a run.
-- Assumes nothing.
use mathlib.Core.List.{List}
use mathlib.Core.Path.{◌≡◌}
use Prim.Native.Nat.{ℕ, ◌+◌}
use Rattle.model.specs.declared.Caps.{Caps}
use Rattle.model.specs.declared.Search.{Search}
use Rattle.std.specs.Prelude.{Result}
use Rattle.model.specs.declared.Ended.{Ended}
use Rattle.model.specs.declared.Refusal.{Refusal}
use Rattle.model.specs.declared.Ran.{Ran}
use Rattle.search.specs.History.{accepted_budget, Handed, run_of, History, ran}

-- an answer and a search that are those of a run make up what the run returns
pub both : (run : Ran) {answer : Result Ended Refusal} {after : Search} → answer ≡ run.answer → after ≡ run.search → record { answer = answer; search = after } ≡ run
both run answers leaves = rw (answers, leaves)

-- an answer and a search that meet the contract of `lent::run`, and of `lent::try_once` with budget 1
pub run_steps :
    {m n nonzeros : ℕ} {list : List ℕ} {caps : Caps} {before : Search} {total : ℕ} → History m n nonzeros list caps before total →
    (handed : Handed m n nonzeros list) (budget : ℕ) (answer : Result Ended Refusal) (after : Search) →
    answer ≡ (run_of before handed budget).answer →
    after ≡ (run_of before handed budget).search →
    History m n nonzeros list caps after (total + accepted_budget answer budget)
run_steps {m} {n} {nonzeros} {list} {caps} {before} {total} h handed budget answer after answers leaves =
    ran h handed budget (record { answer = answer; search = after }) (both (run_of before handed budget) answers leaves)
