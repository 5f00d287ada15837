-- `formulas::compensation` meets its contract: for each case. Assumes nothing.
use borrow.Author.Rules.{rules}
use mathlib.Core.Path.{◌≡◌, refl}
use mir.Facts.{to_z-of_z}
use mir.Syntax.{w16}
use mir.Val.{to_z, of_z}
use Rattle.formulas.specs.Inner.{compensation_of}
use Rattle.formulas.proofs.compensation.Goals as goal

pub returns-in-Some : goal.returns-in-Some
unfolding compensation_of
returns-in-Some c =
    let o = c.args.constants.offset_reference_cp in
    let e : to_z w16 (of_z w16 o) ≡ o = to_z-of_z {w = w16} (search rules) in
    rw (c.per_pixel_v_ir-v_ir.ensures, c.in-Some.is, e) refl

pub returns-in-None : goal.returns-in-None
unfolding compensation_of
returns-in-None c = rw c.in-None.is
