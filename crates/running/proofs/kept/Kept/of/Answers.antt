-- `running::kept::Kept::of` meets its contract.
-- Assumes nothing.
use Rattle.running.proofs.kept.Kept.of.Goals as goal

pub place_all-requires : goal.place_all-requires
place_all-requires c =
    let q = c.requires in
    record { caps = q.caps; every = q.every; fits = q.fits; holds = c.none-kept.ensures }

pub returns : goal.returns
returns c = λ caps every fits. c.place_all.ensures caps every fits c.none-kept.ensures
