-- `pattern::reading::number_at` meets its contract. Where its second byte would stand past the end of the list, that byte is 0.
-- Assumes nothing.
use borrow.Author.Rules.{rules}
use native.Mathlib.Omega.{arith}
use lib.ListN.{get_or-eq_default}
use Rattle.model.specs.Pattern.{low_in, high_in, number_in}
use Rattle.pattern.proofs.reading.number_at.Goals as goal

pub returns-then-at-list : goal.returns-then-at-list
unfolding low_in high_in number_in
returns-then-at-list c = search rules

pub returns : goal.returns
unfolding low_in high_in number_in
returns c =
    let a = c.args in
    let past = get_or-eq_default a.list.now 0 c.if-at-list.false in
    omega (arith, c.number_of-2.ensures, c.byte_at.ensures, past)
