-- `writing::write::page::Page::put_digits` meets its contract.
-- Assumes nothing.
use Rattle.std.proofs.Common.{◌-◌, sym}
use native.Mathlib.Omega.{arith}
use Rattle.writing.proofs.Decimals.{decimals_short, decimals_below}
use Rattle.writing.proofs.Padded.{decimals-padded, first-within, first_below, first_taken, padded-none}
use Rattle.writing.proofs.Pages.{adds_none, adds_as, leads_on}
use Rattle.writing.proofs.write.page.Page.put_digits.Goals as goal

pub loop-k-init : goal.loop-k-init
loop-k-init c =
    let n = c.args.n in
    let counted = c.requires.1 in
    let few = decimals_short 20 n in
    record {
      below = rw counted (decimals_below 20 n (omega arith));
      room = omega arith;
      rest = λ new p. adds_as (rw counted (sym (decimals-padded 20 n))) p;
    }

pub take_digit-taken-requires : goal.take_digit-taken-requires
take_digit-taken-requires c =
    let few = decimals_short 20 c.args.n in
    first-within _ _ _ c.loop-k-test.true c.loop-k.invariant.below (c.powers_of_ten-powers.ensures _ (omega arith))

pub loop-k-preserved : goal.loop-k-preserved
loop-k-preserved c =
    let held = c.loop-k.invariant in
    let some = c.loop-k-test.true in
    let few = decimals_short 20 c.args.n in
    let power = c.powers_of_ten-powers.ensures (c.loop-k.k - 1) (omega arith) in
    let taken = c.take_digit-taken.ensures in
    record {
      below = first_below _ _ _ some held.below power taken.left;
      room = omega (arith, c.put.ensures.puts.after);
      rest = leads_on held.rest (first_taken _ _ _ some held.below power taken.byte taken.left) c.put.ensures;
    }

pub returns : goal.returns
returns c = c.loop-k.invariant.rest _ (adds_as (padded-none _ _ c.loop-k-test.false) (adds_none _))
