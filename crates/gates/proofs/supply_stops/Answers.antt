-- `gates::supply_stops` meets its contract: the difference is exact, and then tested. Assumes nothing.
use borrow.Author.Rules.{rules}
use mathlib.Core.Path.{◌≡◌, refl}
use mir.Facts.{to_z-of_z}
use mir.Syntax.{w16, w32}
use mir.Val.{to_z, of_z}
use Rattle.gates.specs.Gate.{supply_outside}
use Rattle.gates.proofs.supply_stops.Goals as goal

pub returns : goal.returns
unfolding supply_outside
returns c =
    let a = c.args in
    let p : to_z w16 (of_z w16 a.ram.v_dd_pixel) ≡ a.ram.v_dd_pixel = to_z-of_z {w = w16} (search rules) in
    let v : to_z w16 (of_z w16 a.constants.v_dd_25) ≡ a.constants.v_dd_25 = to_z-of_z {w = w16} (search rules) in
    rw (c.fits_i16.ensures, to_z-of_z {w = w32} (record { sfits = c.difference.type_inv }), c.difference.ensures.0, p, v) refl
