-- `gulzoreno::figures::put_figure` meets its contract. The loop's invariant: the first `i` bytes are written, and `rest` is what is left of the number.
-- Assumes nothing.
use mathlib.Core.Path.{◌≡◌}
use Prim.Native.Nat.{◌/◌, ◌^◌}
use Rattle.gulzoreno.specs.Figures.{low_bytes}
use Rattle.gulzoreno.proofs.figures.put_figure.Given as goal

abbrev pub invariant-loop-i : goal.invariant-loop-i
invariant-loop-i l = (l.rest ≡ l.x / 256 ^ l.i) × (l.out ≡ low_bytes l.at l.x l.i l.initial.out)
