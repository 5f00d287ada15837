-- `frames::from_infrared` meets its contract: the gate's verdict is returned, or else the temperatures are computed from the destination. Assumes nothing.
use Prim.Native.Nat.{ℕ}
use mathlib.Core.Path.{◌≡◌, sym, ap, ◌∙◌}
use mathlib.Core.List.{List}
use native.Mathlib.Omega.{arith}
use lib.Ieee.{Float}
use Rattle.std.proofs.lemmas.Result.{err_from_is_err_and}
use Rattle.std.specs.Prelude.{⊤, Result}
use Rattle.refusal.specs.Order.{first_of}
use Rattle.refusal.specs.declared.Refusal.{Refusal}
use Rattle.formulas.specs.declared.CommonToData.{CommonToData}
use Rattle.formulas.specs.Pixel.{answer_of}
use Rattle.gates.specs.Gate.{temperature_tests}
use Rattle.pixels.specs.Pixels.{held, answer_bits}
use Rattle.pixels.specs.Inner.{lifted_at}
use Rattle.frames.specs.Frames.{ToCall, to_verdict, to_lengths}
use Rattle.frames.specs.Inner.{any_to, ranges_of}
use Rattle.frames.proofs.Opened.{temperature-opened}
use Rattle.frames.proofs.Calls.{refused, done, same_bits}
use Rattle.frames.proofs.ByWanted.{final-is}
use Rattle.frames.proofs.from_infrared.Goals as goal

gated : (f : ToCall) (d : List ℕ) {v : Result ⊤ Refusal} → v ≡ first_of (temperature_tests f.settings.emissivity f.ranges.count f.settings.basic_range (to_lengths f d)) → v ≡ to_verdict f d
unfolding to_verdict
gated f d e = e

pub returns-in_err-temperature_gate : goal.returns-in_err-temperature_gate
returns-in_err-temperature_gate c = λ corners coefficients.
    let a = c.args in
    let f : ToCall = any_to a.constants a.settings a.t_a a.blocks (ranges_of a.ranges corners a.k_s_to.now coefficients) a.alpha.now a.mask.now in
    let p = err_from_is_err_and c.from_residual.result c.from_residual.ensures.1 in
    refused (sym (gated f a.destination.now c.temperature_gate.ensures) ∙ c.in_err-temperature_gate.was) p.1 p.2

pub common_to-requires : goal.common_to-requires
common_to-requires c = let o = (temperature-opened _ _ _ _ (sym c.temperature_gate.ensures ∙ c.in_ok-temperature_gate.was)).within in omega arith

pub frame_pixels-lost-requires : goal.frame_pixels-lost-requires
frame_pixels-lost-requires c =
    let l = (temperature-opened _ _ _ _ (sym c.temperature_gate.ensures ∙ c.in_ok-temperature_gate.was)).long in
    record { blocks_bound = (c.requires.0, l.mask, l.destination); readable_for = tt; workable_for = l.table }

pub returns : goal.returns
returns c = λ corners coefficients.
    let a = c.args in
    let v = held a.destination.now in
    let f : ToCall = any_to a.constants a.settings a.t_a a.blocks (ranges_of a.ranges corners a.k_s_to.now coefficients) a.alpha.now a.mask.now in
    let w = c.frame_pixels-lost.ensures in
    same_bits _
    (λ k h _. ap (λ (X : Float). answer_bits (answer_of X (v k))) (ap (λ (x : CommonToData). lifted_at x a.alpha.now (v k) k) c.common_to.ensures ∙ final-is f v k))
    (done (sym (gated f a.destination.now c.temperature_gate.ensures) ∙ c.in_ok-temperature_gate.was) c.to_bits.ensures w.count w.destination)
