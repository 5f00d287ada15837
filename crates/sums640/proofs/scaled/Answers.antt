-- `sums640::scaled` meets its contract: a field of at most six bits times at most 2 ^ 15 fits an i32. Assumes nothing.
use borrow.Author.Rules.{sfits_of}
use mathlib.Core.Path.{◌≡◌, ap, ◌∙◌}
use Prim.Native.Nat.{ℕ, ◌*◌, ◌%◌, ◌^◌, ◌<◌, ◌≤◌}
use native.Mathlib.Omega.{arith}
use lib.IntN.{ℤ, pos, ◌*ℤ◌}
use lib.Pow.{pow-lt}
use lib.Signed.{mag}
use mir.Syntax.{w16, w32}
use mir.Val.{to_z, of_z}
use mir.ValLaws.{to_z_pos}
use Rattle.util.specs.Fields.{signed}
use Rattle.util.proofs.Shift.{one_shifted}
use Rattle.util.proofs.Width.{signed_back}
use Rattle.util.proofs.Range.{back32}
use Rattle.sums640.specs.Sums.{scaled}
use Rattle.sums640.proofs.Range.{signed-mag, scaled-mag}
use Rattle.sums640.proofs.scaled.Goals as goal
use Rattle.sums640.proofs.scaled.Goals.{After-i16_from_bits-raw}

power : (k : ℕ) → k < 16 → to_z w32 (1 * 2 ^ k % 4294967296) ≡ pos (2 ^ k)
power k h = ap (to_z w32) (one_shifted 32 k (omega arith)) ∙ to_z_pos w32 (2 ^ k) (pow-lt {i = k} {j = 31} (omega arith))

module _ (c : After-i16_from_bits-raw) where
  abbrev field : ℤ
  field = signed c.args.width c.args.word

  raw-is : to_z w16 (of_z w16 c.i16_from_bits-raw.result) ≡ field
  raw-is =
      ap (λ (z : ℤ). to_z w16 (of_z w16 z)) (c.i16_from_bits-raw.ensures ∙ ap (signed c.args.width) c.wide.ensures)
      ∙ signed_back c.args.width c.args.word c.requires.0 (let p = c.requires.1 in omega arith)

  small : mag field < 32
  small = signed-mag c.args.width c.args.word c.requires.0 c.requires.1

  product : mag (field *ℤ pos (2 ^ c.args.scale)) ≤ 1048576
  unfolding scaled
  product = scaled-mag c.args.width c.args.word c.args.scale c.requires.0 c.requires.1 c.requires.2

pub overflow_mul-result : goal.overflow_mul-result
overflow_mul-result c = rw (raw-is c, back32 (field c) (omega (arith, small c)), power c.args.scale c.requires.2) (sfits_of (omega (arith, product c)))

pub returns : goal.returns
unfolding scaled
returns c = rw (raw-is c, back32 (field c) (omega (arith, small c)), power c.args.scale c.requires.2, back32 (field c *ℤ pos (2 ^ c.args.scale)) (omega (arith, product c)))
