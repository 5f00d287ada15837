-- `hamming::odd_bytes` meets its contract: folding computes the five parities. Assumes nothing.
use Rattle.hamming.proofs.Folds.{folded-is}
use Rattle.hamming.proofs.odd_bytes.Goals as goal

pub returns : goal.returns
returns c = folded-is c.args.word c.ranges.word.fits
