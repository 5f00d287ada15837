-- `gates::temperature_gate` meets its contract: the lists of tests, one after another. Assumes nothing.
use mathlib.Core.Path.{◌∙◌}
use Rattle.std.proofs.lemmas.Result.{err_from_is_err_and}
use Rattle.gates.proofs.Turns.{stops, goes_on}
use Rattle.gates.proofs.temperature_gate.Goals as goal

pub returns-in_err-length_gate : goal.returns-in_err-length_gate
returns-in_err-length_gate c =
    let p = err_from_is_err_and c.from_residual.result c.from_residual.ensures.1 in
    rw (p.1, p.2) (stops _ _ _ _ c.length_gate.ensures c.in_err-length_gate.was)

pub returns-in_err-range_gate : goal.returns-in_err-range_gate
returns-in_err-range_gate c =
    let p = err_from_is_err_and c.from_residual-in_err-range_gate.result c.from_residual-in_err-range_gate.ensures.1 in
    rw (p.1, p.2) (stops _ _ _ _ c.range_gate.ensures c.in_err-range_gate.was ∙ goes_on _ _ _ _ c.length_gate.ensures c.in_ok-length_gate.was)

pub returns : goal.returns
returns c = c.emissivity_gate.ensures ∙ goes_on _ _ _ _ c.range_gate.ensures c.in_ok-range_gate.was ∙ goes_on _ _ _ _ c.length_gate.ensures c.in_ok-length_gate.was
