-- `pixels::bits_block` meets its contract, for each goal. Assumes nothing.
use borrow.Author.Rules.{rules}
use native.Mathlib.Omega.{arith}
use Rattle.pixels.proofs.Blocks.{same_flags, as-infrared, as-temperature, as-ranged, workable}
use Rattle.pixels.proofs.bits_block.Goals as goal

pub temperature_block-requires : goal.temperature_block-requires
temperature_block-requires c = let w = workable _ _ c.in-Temperature.is c.requires.workable_for in (omega arith, search rules, search rules)

pub ranged_block-requires : goal.ranged_block-requires
ranged_block-requires c = let w = workable _ _ c.in-Ranged.is c.requires.workable_for in record { side_in_bounds = (w.0, search rules, search rules); ranges_nonzero = (w.1, w.2, w.3, w.4) }

pub returns-in-Infrared : goal.returns-in-Infrared
returns-in-Infrared c = same_flags _ c.number_bits.ensures (λ i h. as-infrared _ _ _ c.in-Infrared.is)

pub returns-in-Temperature : goal.returns-in-Temperature
returns-in-Temperature c = same_flags _ c.answer_bits.ensures (λ i h. as-temperature _ _ _ c.in-Temperature.is (c.temperature_block.ensures.at i h))

pub returns-in-Ranged : goal.returns-in-Ranged
returns-in-Ranged c = same_flags _ c.answer_bits-in-Ranged.ensures (λ i h. as-ranged _ _ _ c.in-Ranged.is (c.ranged_block.ensures.at i h))
