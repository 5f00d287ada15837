-- `map::is_checked` meets its contract: a word is checked if it belongs to a field. Assumes nothing.
use mathlib.Core.Path.{◌≡◌, refl, ap, ◌∙◌}
use Rattle.std.specs.Prelude.{Option, None, Some}
use Rattle.std.specs.Option.{is_some}
use Rattle.map.specs.declared.Field.{Field}
use Rattle.map.specs.Map.{is_checked, checked}
use Rattle.map.proofs.is_checked.Goals as goal

field : (role : Option Field) → is_some role ≡ is_checked role
field None = refl
field (Some x) = refl

pub returns : goal.returns
unfolding checked
returns c = c.is_some.ensures ∙ field c.role_of.result ∙ ap is_checked c.role_of.ensures
