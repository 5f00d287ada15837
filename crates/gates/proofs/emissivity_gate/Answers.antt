-- `gates::emissivity_gate` meets its contract: each return is one line of the definition. Assumes nothing.
use mathlib.Core.Path.{refl, sym, ◌∙◌}
use Rattle.refusal.specs.Order.{first_of}
use Rattle.gates.specs.Gate.{emissivity_tests}
use Rattle.gates.proofs.emissivity_gate.Goals as goal

pub returns-then-emissivity_stops : goal.returns-then-emissivity_stops
unfolding emissivity_tests first_of
returns-then-emissivity_stops c = rw (sym c.emissivity_stops.ensures ∙ c.if-emissivity_stops.true) refl

pub returns : goal.returns
unfolding emissivity_tests first_of
returns c = rw (sym c.emissivity_stops.ensures ∙ c.if-emissivity_stops.false) refl
