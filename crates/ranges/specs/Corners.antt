-- Document 02, CR 9: the corner temperatures of a camera that has n ranges. Assumes nothing.
use Rattle.std.specs.Prelude.{ℕ, ◌-◌, Bool, List, [], ◌∷◌, ℤ, pos, int_le, nat_lt, slice_index_or, Float}
use Rattle.std.specs.Float.Ieee.{le}
use Rattle.lists.specs.First.{first_from}
use Rattle.lists.specs.Last.{last_below}
use Rattle.floats.specs.Floats.{real}
use Rattle.refusal.specs.declared.Refusal.TheVariants.{UnorderedCorners}
use Rattle.refusal.specs.Order.{Test, ◌refuses◌}

-- the corner temperature of range r
abbrev pub corner_at : List ℤ → ℕ → ℤ
corner_at corners r = slice_index_or corners r (pos 0)

-- the first range whose corner is not above the one before it; n if all rise
unfoldable pub unrisen : ℕ → List ℤ → ℕ
unrisen n corners = first_from (λ (r : ℕ). int_le (corner_at corners r) (corner_at corners (r - 1))) 1 (n - 1)

-- refusal 12: a corner is not above the one before it
unfoldable pub corner_tests : ℕ → List ℤ → List Test
corner_tests n corners =
    nat_lt (unrisen n corners) n refuses UnorderedCorners (unrisen n corners)
    ∷ []

-- whether the corner of range r is not above the temperature t
abbrev pub reaches : List ℤ → Float → ℕ → Bool
reaches corners t r = le (real (corner_at corners r)) t

-- the range that holds a temperature: the last one whose corner is not above it; 0 if there is none
unfoldable pub range_of : ℕ → List ℤ → Float → ℕ
range_of n corners t = last_below (reaches corners t) 0 n
