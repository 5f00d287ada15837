-- `burn::next_step` meets its contract: the gate decides. Assumes nothing.
use Rattle.std.proofs.Common.{Option, Ok, sym, ap, ◌∙◌}
use Rattle.std.proofs.lemmas.Result.{err_from_is_err_and}
use Rattle.burn.specs.declared.Step.{Step}
use Rattle.burn.proofs.Tests.{opened, goes_on, stops}
use Rattle.burn.proofs.next_step.Goals as goal

pub returns-in_err-gate : goal.returns-in_err-gate
returns-in_err-gate c =
    let p = err_from_is_err_and c.from_residual.result c.from_residual.ensures.1 in
    rw (p.1, p.2) (sym (stops _ _ _ (sym c.gate.ensures ∙ c.in_err-gate.was)))

pub first_step-requires : goal.first_step-requires
first_step-requires c =
    let o = opened _ _ (sym c.gate.ensures ∙ c.in_ok-gate.was) in
    (o.here, o.there)

pub returns : goal.returns
returns c = ap (λ (o : Option Step). Ok o) c.first_step.ensures ∙ sym (goes_on _ _ (sym c.gate.ensures ∙ c.in_ok-gate.was))
