use mathlib.Core.Path.{◌∙◌, ap}
use native.Mathlib.Omega.{arith}
use lib.ListN.{length}
use Rattle.counting.proofs.Joined.{bit_le_one}
use Rattle.matching.specs.Augmenting.{ground_in}
use Rattle.matching.proofs.Visits.Arrays.{none_long}
use Rattle.matching.proofs.Visits.Starts.{from_bool_is, starts_begin, starts_more, starts_end}
use Rattle.matching.proofs.augmenting.Ground.matching_of.Goals as goal

pub loop-i-init : goal.loop-i-init
loop-i-init c =
    let a = c.args in
    let G = ground_in a.self.now in
    let none = c.no_mates-mate in (
      omega arith,
      omega arith,
      omega arith,
      ap length none.ensures ∙ none_long,
      starts_begin G none.result none.ensures,
    )

pub overflow_add-size : goal.overflow_add-size
overflow_add-size c =
    let found = c.start_from-visit.result.found in
    record { fits = omega (arith, c.from-size.ensures, from_bool_is found, bit_le_one found) }

pub overflow_add-looks : goal.overflow_add-looks
overflow_add-looks c =
    record { fits = omega (arith, c.start_from-visit.ensures.few) }

pub loop-i-preserved : goal.loop-i-preserved
loop-i-preserved c =
    let a = c.args in
    let G = ground_in a.self.now in
    let l = c.loop-i in
    let v = c.start_from-visit in
    let one = c.from-size.ensures ∙ from_bool_is v.result.found in (
      omega (arith, one, bit_le_one v.result.found),
      omega arith,
      omega (arith, v.ensures.few),
      v.ensures.mate_long,
      starts_more
          G
          l.i
          l.size
          l.looks
          c.from-size.result
          l.mate
          v.new.mate
          v.result
          l.invariant.4
          v.ensures
          one,
    )

pub returns : goal.returns
returns c =
    let a = c.args in
    let G = ground_in a.self.now in
    let l = c.loop-i in
    (starts_end G l.i l.size l.looks l.mate l.invariant.4 (omega arith), omega arith)
