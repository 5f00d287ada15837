-- `calculations::from_pixels` meets its contract: by that of `frames::from_pixels`, with this camera's numbers and tables. Assumes nothing.
use borrow.Author.Rules.{rules}
use mathlib.Core.Path.{ap, ◌∙◌}
use native.Mathlib.Omega.{arith}
use lib.Dec.{lit≤}
use lib.ListN.{length}
use Rattle.eeprom.proofs.Parts.{offsets-long}
use Rattle.calculations.proofs.Calls.{makes}
use Rattle.calculations.proofs.from_pixels.Goals as goal

pub returns : goal.returns
returns c =
    let a = c.args in
    makes a.calibration a.input a.compensation a.wanted a.offsets0.now a.offsets1.now a.alpha.now a.k_v.now a.k_ta.now a.pixels.now a.mask.now
    c.constants_of-constants.ensures c.shortest_of.ensures c.subpage_offsets-offsets.ensures c.from_pixels.ensures

pub from_pixels-requires-clause-blocks_bound : goal.from_pixels-requires-clause-blocks_bound
from_pixels-requires-clause-blocks_bound c =
    let a = c.args in
    let n = c.shortest_of.ensures in (
      lit≤ tt,
      λ h.
          let l = ap length c.subpage_offsets-offsets.ensures ∙ offsets-long a.offsets0.now a.offsets1.now a.input.subpage (omega arith) (omega arith) in
          record {
            offsets = omega arith;
            k_ta = omega arith;
            k_v_some = omega arith;
            k_v_few = lit≤ tt;
            k_v = omega arith;
            access_some = omega arith;
            access_few = lit≤ tt;
            access = search rules;
          },
    )
