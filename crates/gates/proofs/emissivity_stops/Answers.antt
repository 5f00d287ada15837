-- `gates::emissivity_stops` meets its contract: a zero, or NaN. Assumes nothing.
use mathlib.Core.Path.{sym, ap, ◌∙◌}
use mathlib.Core.Bool.{Bool, ◌||◌}
use lib.Ieee.{is_nan}
use Rattle.floats.proofs.Nan.{by-test}
use Rattle.gates.specs.Gate.{bad_emissivity}
use Rattle.gates.proofs.emissivity_stops.Goals as goal

pub returns-then-emissivity : goal.returns-then-emissivity
unfolding bad_emissivity
returns-then-emissivity c = rw c.if-emissivity.true

pub returns : goal.returns
unfolding bad_emissivity
returns c = by-test c.args.emissivity ∙ sym (ap (λ (b : Bool). b || is_nan c.args.emissivity) c.if-emissivity.false)
