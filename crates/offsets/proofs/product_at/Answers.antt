-- `offsets::product_at` meets its contract: it scales the word of the entry. Assumes nothing.
use mathlib.Core.Path.{◌≡◌, sym, ◌∙◌, subst}
use Prim.Native.Nat.{◌≤◌}
use lib.IntN.{ℤ}
use lib.Signed.{mag}
use mir.Facts.{to_z-of_z}
use mir.Syntax.{w32}
use mir.Val.{to_z, of_z}
use Rattle.offsets.proofs.Range.{product-mag, product_at_lem}
use Rattle.offsets.proofs.product_at.Goals as goal

pub returns : goal.returns
returns c =
    let s = c in
    let e : to_z w32 (of_z w32 c.product.result) ≡ c.product.result = to_z-of_z {w = w32} (record { sfits = c.product.type_inv }) in (
      e ∙ c.product.ensures ∙ product_at_lem _ _ s.requires.1 _ _ c.entry_word-word.ensures.0,
      subst (λ (z : ℤ). mag z ≤ 1073741824) (sym (e ∙ c.product.ensures)) (product-mag _ _ s.requires.2),
    )
