-- `writing::write::digits::powers_of_ten` meets its contract: the checker computes the powers and compares the whole table with them.
-- Assumes nothing.
use mathlib.Core.Path.{refl}
use Rattle.writing.proofs.Powers.{powers_from, power_at}
use Rattle.writing.proofs.write.page.digits.powers_of_ten.Goals as goal

pub returns : goal.returns
unfolding powers_from
returns c = power_at _ 20 refl
