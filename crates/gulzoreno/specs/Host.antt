-- Document 01, 'Texts' and 'Refusal table': what the C function answers, and what it leaves in its two output slices.
-- Assumes nothing.
use Rattle.std.specs.Prelude.{List, ℕ, ltb, length, Result, Ok, Err}
use Rattle.counting.specs.Tests.{◌or◌}
use Rattle.model.specs.declared.Refusal.{Refusal}
use Rattle.model.specs.declared.Word.TheVariants.{ShortBuffer, Budget}
use Rattle.model.specs.declared.Caps.{Caps}
use Rattle.model.specs.declared.Search.{Search}
use Rattle.model.specs.declared.Shown.{Shown}
use Rattle.model.specs.declared.Shown.TheVariants as showing
use Rattle.model.specs.Limits.{budget_limit}
use Rattle.model.specs.Refusal.{Verdict, refusal_code, refuse, ◌then◌}
use Rattle.model.specs.Calls.{open_verdict, open_call, opened_search, run_call, show_call, show_parts, show_code}
use Rattle.gulzoreno.specs.Figures.{figures_bytes, with_figures}

-- the checks after the opening: the budget (13), the tries being 0; then the output slices (9)
unfoldable pub output_verdict : ℕ → ℕ → List ℕ → List ℕ → Verdict
output_verdict nonzeros budget parts figures =
    refuse (ltb budget_limit budget) Budget 0
    then refuse (ltb (length parts) nonzeros or ltb (length figures) figures_bytes) ShortBuffer 0

-- opens first, then checks budget, then its output slices
unfoldable pub host_verdict : ℕ → ℕ → ℕ → List ℕ → Caps → ℕ → List ℕ → List ℕ → Verdict
host_verdict m n nonzeros list caps budget parts figures =
    open_verdict m n nonzeros list caps then output_verdict nonzeros budget parts figures

-- the search after an opening and one run
unfoldable pub host_search : ℕ → ℕ → ℕ → List ℕ → Caps → ℕ → Search
host_search m n nonzeros list caps budget =
    (run_call (opened_search (open_call m n nonzeros list caps)) m n nonzeros list budget).search

-- the answer after this verdict, by what is shown: 0, or 255 for "none yet", or a refusal as number + 256 × place
unfoldable pub host_code_after : Verdict → Result Shown Refusal → ℕ
host_code_after (Ok _) shown = show_code shown
host_code_after (Err refusal) shown = refusal_code refusal.word refusal.place

-- the parts after this verdict: as shown, or unchanged on a refusal
unfoldable pub host_parts_after : Verdict → List ℕ → List ℕ → List ℕ
host_parts_after (Ok _) shown parts = shown
host_parts_after (Err refusal) shown parts = parts

-- the figures after a showing of this search: written with a split, and unchanged otherwise
unfoldable pub figures_shown : Result Shown Refusal → Search → List ℕ → List ℕ
figures_shown (Ok (showing.Split volume floor)) s figures =
    with_figures volume s.tries floor s.complete figures
figures_shown (Ok (showing.NoneYet floor)) s figures = figures
figures_shown (Err refusal) s figures = figures

-- the figures after this verdict: as shown, or unchanged on a refusal
unfoldable pub host_figures_after : Verdict → Result Shown Refusal → Search → List ℕ → List ℕ
host_figures_after (Ok _) shown s figures = figures_shown shown s figures
host_figures_after (Err refusal) shown s figures = figures

-- what the C function answers
unfoldable pub bipartition_code : ℕ → ℕ → ℕ → List ℕ → Caps → ℕ → List ℕ → List ℕ → ℕ
bipartition_code m n nonzeros list caps budget parts figures =
    host_code_after
    (host_verdict m n nonzeros list caps budget parts figures)
    (show_call (host_search m n nonzeros list caps budget) m n nonzeros list parts)

-- the parts that it leaves
unfoldable pub bipartition_parts : ℕ → ℕ → ℕ → List ℕ → Caps → ℕ → List ℕ → List ℕ → List ℕ
bipartition_parts m n nonzeros list caps budget parts figures =
    host_parts_after
    (host_verdict m n nonzeros list caps budget parts figures)
    (show_parts (host_search m n nonzeros list caps budget) m n nonzeros list parts)
    parts

-- the figures that it leaves
unfoldable pub bipartition_figures : ℕ → ℕ → ℕ → List ℕ → Caps → ℕ → List ℕ → List ℕ → List ℕ
bipartition_figures m n nonzeros list caps budget parts figures =
    host_figures_after
    (host_verdict m n nonzeros list caps budget parts figures)
    (show_call (host_search m n nonzeros list caps budget) m n nonzeros list parts)
    (host_search m n nonzeros list caps budget)
    figures
