-- `frames640::from_pixels` meets its contract: what both cameras share, with this one's numbers, tables and rows. Assumes nothing.
use Rattle.frames640.proofs.Calls.{makes}
use Rattle.frames640.proofs.from_pixels.Goals as goal
use Rattle.frames640.proofs.from_pixels.Goals.{Start}

pub returns : goal.returns
returns c =
    let a = c.args in
    makes a.calibration a.input a.compensation a.wanted a.offsets.now a.alpha.now a.k_ta.now a.pixels.now a.mask.now
    c.k_v_rows.ensures c.access_rows.ensures c.constants_of-constants.ensures c.access_cp.ensures c.least.ensures c.from_pixels.ensures
