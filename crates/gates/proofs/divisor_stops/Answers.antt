-- `gates::divisor_stops` meets its contract: each test is one of the definition's. Assumes nothing.
use borrow.Author.Rules.{rules}
use mathlib.Core.Path.{◌≡◌, refl, sym, ap, ◌∙◌}
use mathlib.Core.Bool.{true, false}
use mir.Facts.{to_z-of_z}
use mir.Syntax.{w16}
use mir.Val.{to_z, of_z}
use Rattle.floats.specs.Floats.{real, is_zero}
use Rattle.formulas.specs.Frame.{ptat_correction_of}
use Rattle.gates.specs.Gate.{zero_divisor}
use Rattle.gates.proofs.divisor_stops.Goals as goal

pub returns-then-constants : goal.returns-then-constants
unfolding zero_divisor
returns-then-constants c =
    let k : to_z w16 (of_z w16 c.args.constants.k_v_dd) ≡ c.args.constants.k_v_dd = to_z-of_z {w = w16} (search rules) in
    let one : is_zero (real c.args.constants.k_v_dd) ≡ true = rw k at c.if-constants.true in
    rw one

pub returns-then-ram : goal.returns-then-ram
unfolding zero_divisor
returns-then-ram c =
    let k : to_z w16 (of_z w16 c.args.constants.k_v_dd) ≡ c.args.constants.k_v_dd = to_z-of_z {w = w16} (search rules) in
    let one : is_zero (real c.args.constants.k_v_dd) ≡ false = rw k at c.if-constants.false in
    let g : to_z w16 (of_z w16 c.args.ram.gain) ≡ c.args.ram.gain = to_z-of_z {w = w16} (search rules) in
    let two : is_zero (real c.args.ram.gain) ≡ true = rw g at c.if-ram.true in
    rw (one, two)

pub returns-then-constants-2 : goal.returns-then-constants-2
unfolding zero_divisor
returns-then-constants-2 c =
    let k : to_z w16 (of_z w16 c.args.constants.k_v_dd) ≡ c.args.constants.k_v_dd = to_z-of_z {w = w16} (search rules) in
    let one : is_zero (real c.args.constants.k_v_dd) ≡ false = rw k at c.if-constants.false in
    let g : to_z w16 (of_z w16 c.args.ram.gain) ≡ c.args.ram.gain = to_z-of_z {w = w16} (search rules) in
    let two : is_zero (real c.args.ram.gain) ≡ false = rw g at c.if-ram.false in
    rw (one, two, c.if-constants-2.true)

pub returns-then-ptat_correction : goal.returns-then-ptat_correction
unfolding zero_divisor
returns-then-ptat_correction c =
    let k : to_z w16 (of_z w16 c.args.constants.k_v_dd) ≡ c.args.constants.k_v_dd = to_z-of_z {w = w16} (search rules) in
    let one : is_zero (real c.args.constants.k_v_dd) ≡ false = rw k at c.if-constants.false in
    let g : to_z w16 (of_z w16 c.args.ram.gain) ≡ c.args.ram.gain = to_z-of_z {w = w16} (search rules) in
    let two : is_zero (real c.args.ram.gain) ≡ false = rw g at c.if-ram.false in
    let p = ap is_zero (c.ptat_correction.ensures ∙ ap (ptat_correction_of c.args.constants) c.delta_v-delta.ensures) in
    rw (one, two, c.if-constants-2.false, sym p ∙ c.if-ptat_correction.true)

pub returns : goal.returns
unfolding zero_divisor
returns c =
    let k : to_z w16 (of_z w16 c.args.constants.k_v_dd) ≡ c.args.constants.k_v_dd = to_z-of_z {w = w16} (search rules) in
    let one : is_zero (real c.args.constants.k_v_dd) ≡ false = rw k at c.if-constants.false in
    let g : to_z w16 (of_z w16 c.args.ram.gain) ≡ c.args.ram.gain = to_z-of_z {w = w16} (search rules) in
    let two : is_zero (real c.args.ram.gain) ≡ false = rw g at c.if-ram.false in
    let p = ap is_zero (c.ptat_correction.ensures ∙ ap (ptat_correction_of c.args.constants) c.delta_v-delta.ensures) in
    rw (one, two, c.if-constants-2.false, sym p ∙ c.if-ptat_correction.false, c.ptat_denominator.ensures) refl
