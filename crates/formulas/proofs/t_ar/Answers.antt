-- `formulas::t_ar` meets its contract: an emissivity of 1, and any other. Assumes nothing.
use mathlib.Core.Path.{◌≡◌, refl}
use mathlib.Core.Bool.{true}
use lib.Ieee.{eq}
use Rattle.floats.specs.Constants.{one}
use Rattle.formulas.specs.Pixel.{t_ar_of}
use Rattle.formulas.proofs.t_ar.Goals as goal

pub returns-then-emissivity : goal.returns-then-emissivity
unfolding t_ar_of
returns-then-emissivity c =
    let e : eq c.args.emissivity one ≡ true = c.if-emissivity.true in
    rw (c.fourth_power-a.ensures, e)

pub returns : goal.returns
unfolding t_ar_of
returns c = rw (c.fourth_power-r.ensures, c.fourth_power-a.ensures, c.if-emissivity.false) refl
