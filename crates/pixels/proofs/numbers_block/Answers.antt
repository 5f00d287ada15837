-- `pixels::numbers_block` meets its contract, for each source. Assumes nothing.
use mathlib.Core.Path.{◌∙◌}
use native.Mathlib.Omega.{arith}
use Rattle.pixels.proofs.Blocks.{readable, from-pixels, from-destination}
use Rattle.pixels.proofs.numbers_block.Goals as goal
use Rattle.pixels.proofs.numbers_block.Goals.{Start}

pub turn-k_v_base-requires : goal.turn-k_v_base-requires
turn-k_v_base-requires c = let r = (readable c.in-Pixels.is _ c.requires.readable_for).tables in (r.k_v_some, r.k_v_few)

pub turn-access_base-requires : goal.turn-access_base-requires
turn-access_base-requires c = let r = (readable c.in-Pixels.is _ c.requires.readable_for).tables in (r.access_some, r.access_few)

pub infrared_block-requires : goal.infrared_block-requires
infrared_block-requires c =
    let r = readable c.in-Pixels.is _ c.requires.readable_for in
    let p = c.turn-k_v_base.ensures.1 in
    let q = c.turn-access_base.ensures.1 in
    let h = c.requires.block_lt_blocks in
    record {
      side_in_bounds = (omega (arith, r.pixels), omega (arith, r.tables.offsets), omega (arith, r.tables.k_ta));
      side_in_bounds_2 = (omega (arith, r.tables.k_v), omega (arith, r.tables.access), omega arith);
    }

pub returns-in-Pixels : goal.returns-in-Pixels
returns-in-Pixels c = record {
  at = λ i h. c.infrared_block.ensures.at i h ∙ from-pixels c.in-Pixels.is _ _ _ i h c.turn-k_v_base.ensures.0 c.turn-access_base.ensures.0;
}

pub returns-in-Destination : goal.returns-in-Destination
returns-in-Destination c = record { at = λ i h. c.held_block.ensures.at i h ∙ from-destination c.in-Destination.is _ _ _ }
