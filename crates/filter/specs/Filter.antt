-- Document 02, CR 11: the last 16 raw readings of the compensation pixel, their sum, and the sum divided by 16. Assumes nothing.
use Rattle.std.specs.Prelude.{ℕ, ◌+◌, ◌%◌, min, ltb, ℤ, pos, negsuc, ◌+ℤ◌, ◌-ℤ◌, get_or, set, replicate, Option, None, Some, Float}
use Rattle.lists.specs.Pick.{pick}
use Rattle.floats.specs.Floats.{over}
use Rattle.filter.specs.declared.Filter.{Filter}

-- the number of readings in an average
abbrev pub size : ℕ
size = 16

-- the filter without readings
abbrev pub empty : Filter
empty = record { readings = replicate size (pos 0); sum = pos 0; turn = 0 }

-- a sum clamped to 20 bits signed, a range that holds every sum of 16 readings
abbrev pub kept : ℤ → ℤ
kept (pos n) = pos (min n 524287)
kept (negsuc n) = negsuc (min n 524287)

-- the index of the next reading; once there are 16, the oldest one is there
abbrev pub place : Filter → ℕ
place f = f.turn % size

-- the counter after one more reading: it counts to 16, and then runs from 16 to 31 and round again
abbrev pub next_turn : ℕ → ℕ
next_turn turn = pick (ltb turn 31) (turn + 1) size

-- the filter after one more reading, for any filter, also one that no pushes make
unfoldable pub pushed : Filter → ℤ → Filter
pushed f reading = record {
  readings = set f.readings (place f) reading;
  sum = kept f.sum +ℤ (reading -ℤ get_or f.readings (place f) (pos 0));
  turn = next_turn f.turn;
}

-- the sum divided by 16
abbrev pub sixteenth : ℤ → Float
sixteenth sum = over sum 4

-- what a filter returns: `None` with fewer than 16 readings, or else the average
unfoldable pub average_of : Filter → Option Float
average_of f = pick (ltb f.turn size) None (Some (sixteenth (kept f.sum)))
