-- `formulas::delta_v` meets its contract: the difference is small, so its conversion to f32 is exact. Assumes nothing.
use borrow.Author.Rules.{rules}
use mathlib.Core.Path.{◌≡◌, refl}
use mir.Facts.{to_z-of_z}
use mir.Syntax.{w16, w32}
use mir.Val.{to_z, of_z}
use Rattle.formulas.specs.Frame.{delta_of}
use Rattle.formulas.proofs.delta_v.Goals as goal

pub returns : goal.returns
unfolding delta_of
returns c =
    let d = c in
    let a = d.args in
    let p : to_z w16 (of_z w16 a.ram.v_dd_pixel) ≡ a.ram.v_dd_pixel = to_z-of_z {w = w16} (search rules) in
    let v : to_z w16 (of_z w16 a.constants.v_dd_25) ≡ a.constants.v_dd_25 = to_z-of_z {w = w16} (search rules) in
    let k : to_z w16 (of_z w16 a.constants.k_v_dd) ≡ a.constants.k_v_dd = to_z-of_z {w = w16} (search rules) in
    rw (to_z-of_z {w = w32} (record { sfits = d.difference.type_inv }), d.difference.ensures.0, p, v, k) refl
