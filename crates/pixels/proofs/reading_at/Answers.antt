-- `pixels::reading_at` meets its contract: its callees' contracts, one after the other. Assumes nothing.
use mir.Facts.{to_z-of_z}
use mir.Syntax.{w16}
use Rattle.pixels.specs.Pixels.{reading_at}
use Rattle.pixels.proofs.reading_at.Goals as goal

pub returns : goal.returns
unfolding reading_at
returns c =
    let r = c in
    rw (
      to_z-of_z {w = w16} (record { sfits = r.i16_from_bits.type_inv }),
      r.i16_from_bits.ensures,
      r.wide.ensures,
      r.word_by_one_load-word.ensures,
    )
