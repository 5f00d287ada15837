-- `offsets::product` meets its contract: a signed number of 11 bits times at most 2 ^ 20 fits an i32. Assumes nothing.
use borrow.Author.Rules.{sfits_of}
use mathlib.Core.Path.{◌≡◌, ap, ◌∙◌}
use Prim.Native.Nat.{ℕ, ◌*◌, ◌%◌, ◌^◌, ◌<◌}
use native.Mathlib.Omega.{arith}
use lib.Dec.{lit≤}
use lib.IntN.{ℤ, pos, ◌*ℤ◌}
use lib.Pow.{pow-lt}
use lib.Signed.{mag}
use mir.Syntax.{w16, w32}
use mir.Val.{to_z, of_z}
use mir.ValLaws.{to_z_pos}
use Rattle.util.specs.Fields.{signed}
use Rattle.util.proofs.Shift.{one_shifted}
use Rattle.util.proofs.Width.{stands, signed_back}
use Rattle.offsets.specs.Offsets.{scales, product_of}
use Rattle.util.proofs.Range.{back32}
use Rattle.offsets.proofs.Range.{product-mag}
use Rattle.offsets.proofs.product.Goals as goal

small : (n : ℕ) → mag (signed 11 n) < 1024
small n = (stands 11 (lit≤ tt)).range n

power : (k : ℕ) → k < scales → to_z w32 (1 * 2 ^ k % 4294967296) ≡ pos (2 ^ k)
power k h = ap (to_z w32) (one_shifted 32 k (omega arith)) ∙ to_z_pos w32 (2 ^ k) (pow-lt {i = k} {j = 31} (omega arith))

product : (raw scale : ℕ) → scale < scales → mag (signed 11 raw *ℤ pos (2 ^ scale)) < 2147483648
unfolding product_of
product raw scale h = omega (arith, product-mag raw scale h)

pub overflow_mul-result : goal.overflow_mul-result
overflow_mul-result c =
    let a = c.args in
    rw (
      (ap (λ (z : ℤ). to_z w16 (of_z w16 z)) (c.i16_from_bits-raw.ensures ∙ ap (signed 11) c.wide.ensures)
          ∙ signed_back 11 c.args.raw (lit≤ tt) (lit≤ tt)),
      back32 (signed 11 a.raw) (omega (arith, small a.raw)),
      power a.scale c.requires,
    )
    (sfits_of (product a.raw a.scale c.requires))

pub returns : goal.returns
unfolding product_of
returns c =
    let a = c.args in
    rw (
      (ap (λ (z : ℤ). to_z w16 (of_z w16 z)) (c.i16_from_bits-raw.ensures ∙ ap (signed 11) c.wide.ensures)
          ∙ signed_back 11 c.args.raw (lit≤ tt) (lit≤ tt)),
      back32 (signed 11 a.raw) (omega (arith, small a.raw)),
      power a.scale c.requires,
      back32 (signed 11 a.raw *ℤ pos (2 ^ a.scale)) (product a.raw a.scale c.requires),
    )
