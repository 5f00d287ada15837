-- `frames::from_pixels` meets its contract: the gate's verdict is returned, or else the pixels are computed with the frame's own numbers. Assumes nothing.
use mathlib.Core.Path.{◌≡◌, sym, ap, ◌∙◌}
use native.Mathlib.Omega.{arith}
use lib.Ieee.{binary32, to_bits}
use Rattle.std.proofs.lemmas.Result.{err_from_is_err_and}
use Rattle.formulas.specs.declared.CommonIrData.{CommonIrData}
use Rattle.formulas.specs.Frame.{common_of}
use Rattle.pixels.proofs.Blocks.{workable}
use Rattle.frames.specs.Frames.{IrCall, PassCall, common}
use Rattle.frames.specs.Inner.{any_ir, ranges_of, any_pass, made_bits}
use Rattle.frames.proofs.Calls.{refused, done, same_bits}
use Rattle.frames.proofs.ByWanted as by
use Rattle.frames.proofs.from_pixels.Goals as goal

common-is : (f : IrCall) {x : CommonIrData} → x ≡ common_of f.constants f.settings f.ram → x ≡ common f
unfolding common
common-is f e = e

pub returns-in_err-gate : goal.returns-in_err-gate
returns-in_err-gate c =
    let a = c.args in
    let gated = c.gate.ensures
    ∙ by.verdict-is a.call a.lists.pixels.now a.lists.offsets.now a.lists.k_ta.now a.lists.k_v.now a.lists.access.now a.mask.now a.tables.corners.now a.tables.k_s_to.now a.tables.coefficients.now a.tables.alpha.now a.call.wanted a.destination.now in
    let p = err_from_is_err_and c.from_residual.result c.from_residual.ensures.1 in
    refused (sym gated ∙ c.in_err-gate.was) p.1 p.2

pub goal_of-requires : goal.goal_of-requires
goal_of-requires c =
    let a = c.args in
    let gated = c.gate.ensures
    ∙ by.verdict-is a.call a.lists.pixels.now a.lists.offsets.now a.lists.k_ta.now a.lists.k_v.now a.lists.access.now a.mask.now a.tables.corners.now a.tables.k_s_to.now a.tables.coefficients.now a.tables.alpha.now a.call.wanted a.destination.now in
    (by.opened a.call a.lists.pixels.now a.lists.offsets.now a.lists.k_ta.now a.lists.k_v.now a.lists.access.now a.mask.now a.tables.corners.now a.tables.k_s_to.now a.tables.coefficients.now a.tables.alpha.now a.call.wanted a.destination.now c.requires.ranges_nonzero (sym gated ∙ c.in_ok-gate.was)).in-range

pub frame_pixels-lost-requires : goal.frame_pixels-lost-requires
frame_pixels-lost-requires c =
    let a = c.args in
    let gated = c.gate.ensures
    ∙ by.verdict-is a.call a.lists.pixels.now a.lists.offsets.now a.lists.k_ta.now a.lists.k_v.now a.lists.access.now a.mask.now a.tables.corners.now a.tables.k_s_to.now a.tables.coefficients.now a.tables.alpha.now a.call.wanted a.destination.now in
    let o = by.opened a.call a.lists.pixels.now a.lists.offsets.now a.lists.k_ta.now a.lists.k_v.now a.lists.access.now a.mask.now a.tables.corners.now a.tables.k_s_to.now a.tables.coefficients.now a.tables.alpha.now a.call.wanted a.destination.now c.requires.ranges_nonzero (sym gated ∙ c.in_ok-gate.was) in
    let l = o.long in
    let p = c.requires.blocks_bound in
    record {
      blocks_bound = (p.0, l.mask, l.destination);
      readable_for = record { pixels = omega (arith, l.pixels); tables = p.1 l.table };
      workable_for = workable _ _ (sym c.goal_of.ensures) (o.workable _);
    }

pub returns : goal.returns
returns c =
    let a = c.args in
    let w = c.frame_pixels-lost.ensures in
    let ir : IrCall = any_ir a.call a.lists.pixels.now a.lists.offsets.now a.lists.k_ta.now a.lists.k_v.now a.lists.access.now a.mask.now in
    let pass : PassCall = any_pass ir (ranges_of a.call.ranges a.tables.corners.now a.tables.k_s_to.now a.tables.coefficients.now) a.tables.alpha.now in
    let gated = c.gate.ensures
    ∙ by.verdict-is a.call a.lists.pixels.now a.lists.offsets.now a.lists.k_ta.now a.lists.k_v.now a.lists.access.now a.mask.now a.tables.corners.now a.tables.k_s_to.now a.tables.coefficients.now a.tables.alpha.now a.call.wanted a.destination.now in
    let shared = common-is ir c.common_ir_data-common.ensures in
    same_bits (made_bits a.call.wanted pass)
    (λ k h _. by.bits_are a.call a.lists.pixels.now a.lists.offsets.now a.lists.k_ta.now a.lists.k_v.now a.lists.access.now a.mask.now a.tables.corners.now a.tables.k_s_to.now a.tables.coefficients.now a.tables.alpha.now a.call.wanted a.destination.now k shared c.compensation-deduction.ensures c.goal_of.ensures)
    (done (sym gated ∙ c.in_ok-gate.was) (c.to_bits.ensures ∙ ap (λ (x : CommonIrData). to_bits binary32 x.t_a) shared) w.count w.destination)
