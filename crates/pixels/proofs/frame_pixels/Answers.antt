-- `pixels::frame_pixels` meets its contract: block by block; those that the mask does not ask for are passed. Assumes nothing.
use borrow.Author.Rules.{rules}
use Prim.Native.Nat.{◌+◌, ◌*◌}
use mathlib.Core.Path.{◌≡◌}
use native.Mathlib.Omega.{arith}
use Rattle.roots.specs.Many.{side}
use Rattle.pixels.specs.Inner.{lent, table}
use Rattle.pixels.proofs.Blocks.{none_yet, with-block, with_none, block-agrees, flags_of, fewer}
use Rattle.pixels.proofs.frame_pixels.Goals as goal

pub loop-block-init : goal.loop-block-init
loop-block-init c = (omega arith, none_yet _ _)

pub any_masked-requires : goal.any_masked-requires
any_masked-requires c = let p = c.requires in let h = c.loop-block-test in omega arith

pub loop-block-preserved-then-not-any_masked : goal.loop-block-preserved-then-not-any_masked
loop-block-preserved-then-not-any_masked c =
    let l = c.loop-block in
    let e : l.block * side + side ≡ (l.block + 1) * side = omega arith in
    (omega arith, rw e at (with_none _ l.invariant.1 (c.any_masked.ensures c.if-not-any_masked.true)))

pub numbers_block-requires : goal.numbers_block-requires
numbers_block-requires c =
    let p = c.requires in
    let l = c.loop-block.invariant.1.long in
    let h = c.loop-block-test in
    record { block_lt_blocks = (omega arith, omega arith, omega arith, search rules); readable_for = p.readable_for }

pub bits_block-requires : goal.bits_block-requires
bits_block-requires c =
    let p = c.requires in
    let h = c.loop-block-test in
    record { side_in_bounds = (search rules, search rules, search rules); workable_for = fewer c.args.work.goal _ _ _ (omega arith) p.workable_for }

pub write_block-requires : goal.write_block-requires
write_block-requires c =
    let p = c.requires in
    let l = c.loop-block.invariant.1.long in
    let h = c.loop-block-test in
    (omega arith, omega arith, flags_of c.bits_block.ensures)

pub overflow_add-lost : goal.overflow_add-lost
overflow_add-lost c =
    let few = c.write_block.ensures.few in
    let p = c.requires in
    let low = c.loop-block.invariant.1.few in
    let h = c.loop-block-test in
    omega arith

pub loop-block-preserved : goal.loop-block-preserved
loop-block-preserved c =
    let a = c.args in
    let l = c.loop-block in
    let e : l.block * side + side ≡ (l.block + 1) * side = omega arith in
    (omega arith, rw e at (with-block _ l.invariant.1 c.write_block.ensures (block-agrees c.args.work.goal c.args.work.source (lent a.lists.pixels.now a.lists.offsets.now a.lists.k_ta.now a.lists.k_v.now a.work.k_v_blocks a.lists.access.now a.work.access_blocks) (table a.tables.alpha.now a.tables.corners.now a.tables.k_s_to.now a.tables.coefficients.now) c.args.mask.now c.args.destination.now _ (l.block * side) l.invariant.1.list c.numbers_block.ensures c.bits_block.ensures)))

pub returns : goal.returns
returns c =
    let u = c.loop-block.invariant.1 in
    let e : c.loop-block.block * side ≡ c.args.work.blocks * side = omega arith in
    record { count = rw e at u.count; destination = rw e at u.list }
