-- For inner functions only: the values that all pixel offsets share. Assumes nothing.
use Rattle.std.specs.Prelude.{ℕ}
use Rattle.offsets.specs.declared.Basis.{Basis}
use Rattle.offsets.specs.Offsets.{offset_scale, average_of}

-- the scale and the average of a card's offsets
unfoldable pub basis_of : (ℕ → ℕ) → Basis
basis_of w = record { scale = offset_scale w; average = average_of w }
