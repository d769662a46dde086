use mathlib.Core.Bool.{not}
use mathlib.Core.Path.{◌≡◌, refl, ◌∙◌, ap}
use Prim.Native.Nat.{ℕ, ◌+◌}
use native.Mathlib.Omega.{arith}
use lib.ListN.{set}
use Rattle.counting.specs.Tests.{◌and◌, ◌or◌}
use Rattle.counting.proofs.Joined.{bit_le_one}
use Rattle.model.specs.declared.Part.TheVariants.{Zero, One}
use Rattle.model.specs.Pattern.{column_in}
use Rattle.pattern.specs.Matrix.{pattern_in}
use Rattle.weighing.specs.Cells.{marking_in}
use Rattle.weighing.proofs.Taken.{takes_code}
use Rattle.showing.proofs.Written.{written_start, written-more, written_end}
use Rattle.showing.proofs.write_split.Goals as goal

pub loop-t-init : goal.loop-t-init
loop-t-init c =
    let a = c.args in
    written_start (pattern_in a.matrix.now) a.caps (marking_in a.marks.now) a.zero a.parts.now

pub overflow_add-filled : goal.overflow_add-filled
overflow_add-filled c =
    omega (
      arith,
      c.loop-t.invariant.few,
      c.filled_by-filled.ensures,
      bit_le_one (not (c.takes_by-first.result or c.takes_by-second.result) and c.has_room-room.result),
    )

pub loop-t-preserved : goal.loop-t-preserved
loop-t-preserved c =
    let row = c.from-row.ensures ∙ c.row_of.ensures in
    let column : c.from-rows.result + c.from.result ≡ c.args.matrix.now.m + column_in c.args.matrix.now.list.now c.loop-t.t = omega arith in
    written-more
    c.loop-t.invariant
    (record {
      first-is = takes_code _ _ _ _ _ Zero _ _ _ 0 _ row column refl c.takes_by-first.ensures;
      second_is = takes_code _ _ _ _ _ One _ _ _ 1 _ row column refl c.takes_by-second.ensures;
      room_is = c.has_room-room.ensures;
      byte_is = c.shown_part.ensures;
      more_is = c.filled_by-filled.ensures;
      parts_set = c.put.ensures ∙ ap (λ (k : ℕ). set c.loop-t.parts k c.shown_part.result) c.from-in-loop-t.ensures;
    })

pub returns : goal.returns
returns c = written_end c.args.matrix.now.nonzeros (omega arith) c.loop-t.invariant
