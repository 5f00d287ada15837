-- `pixels::infrared_at` meets its contract: its callees' contracts, one after the other. Assumes nothing.
use borrow.Author.Rules.{sfits_of}
use mathlib.Core.Path.{refl}
use mir.Facts.{to_z-of_z}
use mir.Syntax.{w32}
use Rattle.pixels.specs.Inner.{raw_of}
use Rattle.pixels.proofs.infrared_at.Goals as goal

pub returns : goal.returns
unfolding raw_of
returns c =
    rw (
      c.deduct.ensures,
      c.per_pixel_v_ir-v_ir.ensures,
      c.real-offset.ensures,
      c.reading_at-reading.ensures,
      to_z-of_z {w = w32} (sfits_of c.real-arg-1.given),
    ) refl
