-- `packing::empty` meets its contract.
-- Assumes nothing.
use mathlib.Core.Path.{refl}
use lib.ListN.{replicate}
use Rattle.packing.specs.Packed.{word_room}
use Rattle.packing.proofs.Packing.{packs_none}
use Rattle.packing.proofs.empty.Goals as goal

pub returns : goal.returns
returns c = packs_none (replicate word_room 0) 0 0 refl refl refl
