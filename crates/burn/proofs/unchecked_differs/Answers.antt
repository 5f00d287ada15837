-- `burn::unchecked_differs` meets its contract. Assumes nothing.
use mathlib.Core.Path.{refl, sym, ◌∙◌}
use Rattle.burn.specs.Burn.{unchecked_at}
use Rattle.burn.proofs.unchecked_differs.Goals as goal

pub returns-then-is_checked : goal.returns-then-is_checked
unfolding unchecked_at
returns-then-is_checked c = rw (sym c.is_checked.ensures ∙ c.if-is_checked.true) refl

pub returns : goal.returns
unfolding unchecked_at
returns c = rw (sym c.is_checked.ensures ∙ c.if-is_checked.false) c.differs.ensures
