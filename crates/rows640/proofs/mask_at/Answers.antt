-- `rows640::mask_at` meets its contract: whether the pixel belongs to the subpage. Assumes nothing.
use borrow.Author.Tests.{eq-eqb, ne_eqb}
use mathlib.Core.Path.{refl, sym, ◌∙◌}
use Rattle.rows640.specs.Mask.{mask_at}
use Rattle.rows640.proofs.mask_at.Goals as goal

pub returns-then-subpage_at-subpage : goal.returns-then-subpage_at-subpage
unfolding mask_at
returns-then-subpage_at-subpage c = rw (eq-eqb _ _ (sym c.subpage_at.ensures ∙ c.if-subpage_at-subpage.true)) refl

pub returns-else-subpage_at-subpage : goal.returns-else-subpage_at-subpage
unfolding mask_at
returns-else-subpage_at-subpage c = rw (ne_eqb _ _ (λ e. c.if-subpage_at-subpage.false (c.subpage_at.ensures ∙ e))) refl
