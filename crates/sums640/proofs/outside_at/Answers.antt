-- `sums640::outside_at` meets its contract: it tests the four numbers one after another. Assumes nothing.
use mathlib.Core.Path.{◌≡◌, refl, sym, ap, ◌∙◌}
use mathlib.Core.Bool.{Bool, true, false, not}
use Prim.Native.Nat.{ℕ}
use lib.IntN.{ℤ}
use mir.Syntax.{w32}
use mir.Facts.{to_z-of_z}
use Rattle.lists.specs.Pick.{pick}
use Rattle.util.specs.Words.{word_at}
use Rattle.util.specs.Fields.{in_i16}
use Rattle.sums640.specs.Sums.{alpha_part, base_at, alpha_base_at, k_ta_sum_at, outside_at}
use Rattle.sums640.proofs.Shared as shared
use Rattle.sums640.proofs.outside_at.Goals as goal

last : (b : Bool) → not b ≡ pick b false true
last true = refl
last false = refl

pub base-requires-clause-pos_bound : goal.base-requires-clause-pos_bound
base-requires-clause-pos_bound c =
    let p = shared.alphas c.requires.shared in
    (shared.row_small p c.args.pixel c.requires.pixel_lt_pixel_count.0, shared.column-small p c.args.pixel c.requires.pixel_lt_pixel_count.0)

base-fits : (w : ℕ → ℕ) (pixel : ℕ) (z : ℤ) → z ≡ base_at w alpha_part pixel → in_i16 z ≡ in_i16 (alpha_base_at w pixel)
unfolding alpha_base_at
base-fits w pixel z e = ap in_i16 e

pub returns-then-not-fits_i16 : goal.returns-then-not-fits_i16
unfolding outside_at
returns-then-not-fits_i16 c = rw (sym ((c.fits_i16.ensures ∙ ap in_i16 (to_z-of_z {w = w32} (record { sfits = c.offset_at.type_inv }) ∙ c.offset_at.ensures))) ∙ c.if-not-fits_i16.true)

pub returns-then-not-fits_i16-2 : goal.returns-then-not-fits_i16-2
unfolding outside_at
returns-then-not-fits_i16-2 c = rw (sym ((c.fits_i16.ensures ∙ ap in_i16 (to_z-of_z {w = w32} (record { sfits = c.offset_at.type_inv }) ∙ c.offset_at.ensures))) ∙ c.if-not-fits_i16.false, sym (c.fits_i16-2.ensures ∙ base-fits _ _ _ (to_z-of_z {w = w32} (record { sfits = c.base.type_inv }) ∙ c.base.ensures ∙ shared.base-is (shared.alphas c.requires.shared) c.args.pixel c.requires.pixel_lt_pixel_count.0)) ∙ c.if-not-fits_i16-2.true)

pub returns-then-not-fits_i16-3 : goal.returns-then-not-fits_i16-3
unfolding outside_at
returns-then-not-fits_i16-3 c = rw (sym ((c.fits_i16.ensures ∙ ap in_i16 (to_z-of_z {w = w32} (record { sfits = c.offset_at.type_inv }) ∙ c.offset_at.ensures))) ∙ c.if-not-fits_i16.false, sym (c.fits_i16-2.ensures ∙ base-fits _ _ _ (to_z-of_z {w = w32} (record { sfits = c.base.type_inv }) ∙ c.base.ensures ∙ shared.base-is (shared.alphas c.requires.shared) c.args.pixel c.requires.pixel_lt_pixel_count.0)) ∙ c.if-not-fits_i16-2.false, sym ((c.fits_i16-3.ensures ∙ ap in_i16 (to_z-of_z {w = w32} (record { sfits = c.alpha_rest_at.type_inv }) ∙ c.alpha_rest_at.ensures))) ∙ c.if-not-fits_i16-3.true)

pub returns : goal.returns
unfolding outside_at
returns c = rw (sym ((c.fits_i16.ensures ∙ ap in_i16 (to_z-of_z {w = w32} (record { sfits = c.offset_at.type_inv }) ∙ c.offset_at.ensures))) ∙ c.if-not-fits_i16.false, sym (c.fits_i16-2.ensures ∙ base-fits _ _ _ (to_z-of_z {w = w32} (record { sfits = c.base.type_inv }) ∙ c.base.ensures ∙ shared.base-is (shared.alphas c.requires.shared) c.args.pixel c.requires.pixel_lt_pixel_count.0)) ∙ c.if-not-fits_i16-2.false, sym ((c.fits_i16-3.ensures ∙ ap in_i16 (to_z-of_z {w = w32} (record { sfits = c.alpha_rest_at.type_inv }) ∙ c.alpha_rest_at.ensures))) ∙ c.if-not-fits_i16-3.false, (c.fits_i16-4.ensures ∙ ap in_i16 (to_z-of_z {w = w32} (record { sfits = c.k_ta_sum_at.type_inv }) ∙ c.k_ta_sum_at.ensures))) (last (in_i16 (k_ta_sum_at (word_at c.args.image.now) c.args.pixel)))
