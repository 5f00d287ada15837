-- `burn::gate` meets its contract: each return is one line of the definition. Assumes nothing.
use Rattle.std.proofs.Common.{sym, ◌∙◌}
use Rattle.util.proofs.Found.{some-below, none-below}
use Rattle.burn.proofs.Tests.{short-present, short-wanted, unchecked-word, lets-pass}
use Rattle.burn.proofs.gate.Goals as goal

pub returns-then-here-lt-IMAGE_BYTES : goal.returns-then-here-lt-IMAGE_BYTES
returns-then-here-lt-IMAGE_BYTES c = short-present _ _ c.if-here-lt-IMAGE_BYTES.true

pub returns-then-there-lt-IMAGE_BYTES : goal.returns-then-there-lt-IMAGE_BYTES
returns-then-there-lt-IMAGE_BYTES c = short-wanted _ _ c.if-here-lt-IMAGE_BYTES.false c.if-there-lt-IMAGE_BYTES.true

pub returns-in-Some : goal.returns-in-Some
returns-in-Some c =
    let f = some-below _ _ (sym c.first_unchecked.ensures ∙ c.in-Some.is) in
    unchecked-word _ _ c.if-here-lt-IMAGE_BYTES.false c.if-there-lt-IMAGE_BYTES.false (sym f.0) (rw f.0 at f.1)

pub returns-in-None : goal.returns-in-None
returns-in-None c =
    lets-pass _ _ c.if-here-lt-IMAGE_BYTES.false c.if-there-lt-IMAGE_BYTES.false (none-below _ _ (sym c.first_unchecked.ensures ∙ c.in-None.is))
