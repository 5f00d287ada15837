-- `pixels::lost_flag` meets its contract: what is not a number is written as the pattern, and nothing else is. Assumes nothing.
use borrow.Author.Rules.{rules}
use mathlib.Core.Path.{sym, ap, ◌∙◌}
use mathlib.Core.Bool.{Bool}
use Rattle.lists.specs.Pick.{pick}
use Rattle.floats.proofs.Nan.{differs, agrees}
use Rattle.pixels.proofs.Lost.{number-flag}
use Rattle.pixels.proofs.lost_flag.Goals as goal

pub returns-then-x : goal.returns-then-x
returns-then-x c = sym (number-flag c.args.x (search rules) ∙ ap (λ (b : Bool). pick b 1 0) (differs c.args.x c.if-x.true))

pub returns-else-x : goal.returns-else-x
returns-else-x c = sym (number-flag c.args.x (search rules) ∙ ap (λ (b : Bool). pick b 1 0) (agrees c.args.x c.if-x.false))
