-- `pattern::hold_lines` meets its contract. A line past the array's end is not held.
-- Assumes nothing.
use mathlib.Core.List.{List}
use Prim.Native.Nat.{ℕ, ◌+◌}
use mathlib.Core.Path.{sym, ◌∙◌, ap}
use lib.ListN.{set}
use Rattle.pattern.proofs.Lines.{with_in, with_out}
use Rattle.pattern.proofs.splits.hold_lines.Goals as goal

pub returns-then-is_in : goal.returns-then-is_in
returns-then-is_in c =
    c.put-then-is_in.ensures
    ∙ ap (λ (held : List ℕ). set held (c.from-then-is_in.result + c.from-then-is_in-2.result) 1) c.put.ensures
    ∙ sym
    (with_in
    _
    _
    _
    _
    _
    _
    _
    _
    _
    (sym c.is_in.ensures ∙ c.if-is_in.true)
    (c.from.ensures ∙ c.row_of.ensures)
    c.from-then-is_in.ensures
    (c.from-then-is_in-2.ensures ∙ c.column_of.ensures))

pub returns-else-is_in : goal.returns-else-is_in
returns-else-is_in c = sym (with_out _ _ _ _ _ _ (sym c.is_in.ensures ∙ c.if-is_in.false))
