-- `util::fits_i16` meets its contract: the code's two comparisons equal one bound on the magnitude. Assumes nothing.
use mir.Facts.{to_z-of_z}
use Rattle.util.proofs.Range.{too-low, by-top}
use Rattle.util.proofs.fits_i16.Goals as goal

pub returns-then-z-ltminus32768 : goal.returns-then-z-ltminus32768
returns-then-z-ltminus32768 c = too-low c.args.z (rw (to_z-of_z c.ranges.z) at c.if-z-ltminus32768.true)

pub returns : goal.returns
returns c =
    let e = to_z-of_z c.ranges.z in
    rw e (by-top c.args.z (rw e at c.if-z-ltminus32768.false))
