-- `burn::first_step` meets its contract. Assumes nothing.
use Rattle.std.proofs.Common.{sym, ◌∙◌}
use Rattle.util.proofs.Found.{some-below, none-below}
use Rattle.burn.proofs.Tests.{none-due, is-due}
use Rattle.burn.proofs.first_step.Goals as goal

pub returns-in_err-word : goal.returns-in_err-word
returns-in_err-word c = c.from_residual.ensures ∙ sym (none-due _ _ (none-below _ _ (sym c.first_differing.ensures ∙ c.in_err-word.was)))

pub returns : goal.returns
returns c =
    let f = some-below _ _ (sym c.first_differing.ensures ∙ c.in_ok-word.was) in
    is-due _ _ (sym f.0) c.next_value-value.ensures (rw f.0 at f.1)
