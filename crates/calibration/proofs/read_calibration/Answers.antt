-- `calibration::read_calibration` meets its contract: it joins the parts of the record. Assumes nothing.
use lib.Dec.{lit≤}
use Rattle.util.proofs.Width.{signed_back}
use Rattle.map.specs.declared.Field.TheVariants.{VDd25, KVDd, OffsetCp}
use Rattle.card.specs.Inner.{at}
use Rattle.card.proofs.Times.{times-back}
use Rattle.calibration.specs.Calibration.{single, double, calibration_of}
use Rattle.calibration.proofs.read_calibration.Goals as goal

pub returns : goal.returns
unfolding calibration_of
returns c =
    let last = c in
    let w = at last.args.words.now in
    rw (
      last.read_sensing-sensing.ensures,
      last.read_references-references.ensures,
      last.read_ptat-ptat.ensures,
      last.read_compensation-compensation.ensures,
      c.coefficients-range_coefficients.ensures,
      last.read_ranges-ranges.ensures,
      times-back (single w VDd25),
      times-back (single w KVDd),
      signed_back 16 (double w OffsetCp) (lit≤ tt) (lit≤ tt),
    )
