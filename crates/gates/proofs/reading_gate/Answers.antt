-- `gates::reading_gate` meets its contract: each return is one line of the definition. Assumes nothing.
use mathlib.Core.Path.{sym, ◌∙◌}
use Rattle.refusal.specs.Order.{first_of}
use Rattle.gates.specs.Gate.{reading_tests}
use Rattle.gates.proofs.reading_gate.Goals as goal

pub returns-then-supply_stops : goal.returns-then-supply_stops
unfolding reading_tests first_of
returns-then-supply_stops c = rw (sym c.supply_stops.ensures ∙ c.if-supply_stops.true)

pub returns-then-divisor_stops : goal.returns-then-divisor_stops
unfolding reading_tests first_of
returns-then-divisor_stops c = rw ((sym c.supply_stops.ensures ∙ c.if-supply_stops.false), sym c.divisor_stops.ensures ∙ c.if-divisor_stops.true)

pub returns-then-emissivity_stops : goal.returns-then-emissivity_stops
unfolding reading_tests first_of
returns-then-emissivity_stops c =
    let d = c in
    rw ((sym d.supply_stops.ensures ∙ d.if-supply_stops.false), (sym d.divisor_stops.ensures ∙ d.if-divisor_stops.false), sym c.emissivity_stops.ensures ∙ c.if-emissivity_stops.true)

pub returns : goal.returns
unfolding reading_tests first_of
returns c =
    let d = c in
    rw ((sym d.supply_stops.ensures ∙ d.if-supply_stops.false), (sym d.divisor_stops.ensures ∙ d.if-divisor_stops.false), sym c.emissivity_stops.ensures ∙ c.if-emissivity_stops.false)
