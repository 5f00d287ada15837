-- `eeprom::alpha_row` meets its contract, for both outcomes of each of its two tests. Assumes nothing.
use borrow.Author.Tests.{lt-ltb, le-ltb}
use Prim.Native.Nat.{◌+◌, ◌*◌, ◌-◌, ◌<◌, ◌≤◌}
use mathlib.Core.Path.{◌≡◌}
use native.Mathlib.Omega.{arith}
use lib.ListN.{length}
use Rattle.map.specs.Map.{image_bytes}
use Rattle.eeprom.specs.Parts.{row_of}
use Rattle.eeprom.proofs.alpha_row.Goals as goal

pub returns-then-row-gt5 : goal.returns-then-row-gt5
unfolding row_of
returns-then-row-gt5 c = let h : 5 < c.args.row = omega arith in simp (lt-ltb _ _ h)

pub returns-then-image-lt-IMAGE_BYTES : goal.returns-then-image-lt-IMAGE_BYTES
unfolding row_of
returns-then-image-lt-IMAGE_BYTES c =
    let h : length c.args.image.now < image_bytes = omega arith in
    let k : c.args.row ≤ 5 = omega arith in
    simp (le-ltb _ _ k, lt-ltb _ _ h)

pub returns : goal.returns
unfolding row_of
returns c =
    let row = c.args.row in
    let e : 512 + row * 64 + 64 - (512 + row * 64) ≡ 64 = omega arith in
    let k : c.args.row ≤ 5 = omega arith in
    simp (le-ltb _ _ k, le-ltb _ _ c.if-image-lt-IMAGE_BYTES.false, e)
