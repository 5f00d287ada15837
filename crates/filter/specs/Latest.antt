-- What a filter returns after any pushes and resets since it was new, stated by the readings alone. Assumes nothing.
use Rattle.std.specs.Prelude.{◌<◌, ◌≤◌, ◌≡◌, List, [], ◌∷◌, ℤ, pos, ◌+ℤ◌, take, length, None, Some}
use Rattle.std.specs.Int.Signed.{mag}
use Rattle.floats.specs.Exact.{Exactly}
use Rattle.filter.specs.declared.Filter.{Filter}
use Rattle.filter.specs.Filter.{size, empty, pushed, average_of, sixteenth}

-- one thing done to a filter
pub data Event : Type 0 where
  push : ℤ → Event
  reset : Event

-- the filter after the events, the latest first
unfoldable pub after : List Event → Filter
after [] = empty
after (push reading ∷ before) = pushed (after before) reading
after (reset ∷ before) = empty

-- the readings since the filter was new or last reset, the latest first
unfoldable pub since : List Event → List ℤ
since [] = []
since (push reading ∷ before) = reading ∷ since before
since (reset ∷ before) = []

-- the sum of a list, computed afresh
unfoldable pub total : List ℤ → ℤ
total [] = pos 0
total (reading ∷ rest) = reading +ℤ total rest

-- a reading of 16 bits signed
abbrev pub Raw : ℤ → Type 0
Raw reading = mag reading < 32768

-- what a filter returns, for readings of 16 bits since it was new or last reset
pub record Says (events : List Event) : Type 0 where
  -- `None` with fewer than 16 readings
  pub early : length (since events) < size → average_of (after events) ≡ None
  -- or else the average of the last 16
  pub ready : size ≤ length (since events) → average_of (after events) ≡ Some (sixteenth (total (take size (since events))))
  -- that average is the sum over 16 without rounding; a sum of 0 gives +0
  pub exact : Exactly (sixteenth (total (take size (since events)))) (total (take size (since events))) 4
