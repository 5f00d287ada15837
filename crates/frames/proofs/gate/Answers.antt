-- `frames::gate` meets its contract, for each case of what is wanted. Assumes nothing.
use Rattle.std.proofs.lemmas.Result.{err_from_is_err_and}
use Rattle.gates.proofs.Turns.{stops, goes_on}
use Rattle.frames.proofs.gate.Goals as goal

pub returns-in_err-pass_gate-in-Ranged : goal.returns-in_err-pass_gate-in-Ranged
returns-in_err-pass_gate-in-Ranged c =
    let p = err_from_is_err_and c.from_residual.result c.from_residual.ensures.1 in
    rw (c.in-Ranged.is, p.1, p.2) (stops _ _ _ _ c.pass_gate-in-Ranged.ensures c.in_err-pass_gate-in-Ranged.was)

pub returns-in_ok-pass_gate-in-Ranged : goal.returns-in_ok-pass_gate-in-Ranged
returns-in_ok-pass_gate-in-Ranged c =
    rw (c.in-Ranged.is, c.corner_gate.ensures, c.wide.ensures) (goes_on _ _ _ _ c.pass_gate-in-Ranged.ensures c.in_ok-pass_gate-in-Ranged.was)
