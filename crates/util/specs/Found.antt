-- A search's answer as an Option. Assumes nothing.
use Rattle.std.specs.Prelude.{ℕ, Option, Some, None, nat_lt, if◌then◌else◌}

-- the index that was found, if it is below the limit
abbrev pub found_below : ℕ → ℕ → Option ℕ
found_below limit n = if nat_lt n limit then Some n else None
