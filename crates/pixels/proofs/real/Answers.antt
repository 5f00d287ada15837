-- `pixels::real` meets its contract: only the sum of the two halves rounds. Assumes nothing.
use mathlib.Core.Path.{ap₂, ◌∙◌}
use lib.IntN.{ℤ}
use lib.Ieee.{binary32, add, mul, of_int}
use Rattle.pixels.proofs.Halves.{shift, upper_is, lower-is, halves}
use Rattle.pixels.proofs.real.Goals as goal

pub returns : goal.returns
returns c =
    let s = c in
    let z = s.args.offset in
    ap₂ (λ (u l : ℤ). add binary32 (mul binary32 (of_int binary32 u) shift) (of_int binary32 l)) (upper_is z s.ranges.offset) (lower-is z s.ranges.offset)
    ∙ halves z s.ranges.offset
