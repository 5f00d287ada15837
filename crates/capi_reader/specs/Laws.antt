-- Any sequence of calls from C does what the same calls of the reader do, converted, so every law of the reader holds for C. Assumes nothing.
use Rattle.std.specs.Prelude.{ℕ, ◌<◌, ◌≤◌, ◌≡◌}
use mathlib.Core.List.{List, [], foldl}
use Rattle.map.specs.Map.{image_bytes, frame_pixels}
use Rattle.eeprom.specs.Load.{Tables, shortest}
use Rattle.refusal.specs.declared.Refusal.TheVariants.{ShortImage}
use Rattle.reader.specs.Calls.{more, refused, Call, Event, took, finished, State, calling, after_calls, begun}
use Rattle.capi_reader.specs.declared.Reader.{Reader}
use Rattle.capi_reader.specs.Border.{answer_out, reader_out, reading_in, After, after, after_out, takes_out, finishes_out}

-- the caller's array and C's reader
pub record StateOut : Type 0 where
  pub image : List ℕ
  pub reader : Reader

-- the reader's state as C has it
abbrev pub state_out : State → StateOut
state_out s = record { image = s.image; reader = reader_out s.reading }

-- what C's `take` does to a state
abbrev pub calling_out : StateOut → Call → After
calling_out s c = takes_out s.image s.reader c.piece c.range c.lent

-- the state that one call leaves
abbrev pub leaves_out : StateOut → Event → StateOut
leaves_out s (took c) = record { image = (calling_out s c).image; reader = (calling_out s c).taken.reader }
leaves_out s finished = record { image = s.image; reader = finishes_out s.reader }

-- the state that a list of calls leaves
abbrev pub after_calls_out : StateOut → List Event → StateOut
after_calls_out s calls = foldl leaves_out s calls

-- for any calls from C, from the first on, with an array of a card's size
pub record Carried (lent : List ℕ) : Type 0 where
  -- they leave the state that the reader's own calls leave, converted
  pub state : (calls : List Event) → after_calls_out (state_out (begun lent)) calls ≡ state_out (after_calls (begun lent) calls)
  -- one more piece returns, fills and keeps what the reader's own call does
  pub call : (calls : List Event) (c : Call) → calling_out (after_calls_out (state_out (begun lent)) calls) c ≡ after_out (calling (after_calls (begun lent) calls) c)

-- for a reader that has not ended, with any count, also one that no calls produce
pub record NotEnded (image : List ℕ) (count : ℕ) : Type 0 where
  -- an empty piece changes nothing
  pub empty :
      (range : ℕ) (t : Tables) → frame_pixels ≤ shortest t
      → takes_out image (reader_out (reading_in count)) [] range t ≡ after image t (record { reader = reader_out (reading_in count); answer = answer_out more })
  -- `finished` is refusal 1 below 1,664 bytes
  pub early : count < image_bytes → finishes_out (reader_out (reading_in count)) ≡ reader_out (record { count = count; answer = refused (ShortImage count) })
  -- and changes nothing from there on
  pub full : image_bytes ≤ count → finishes_out (reader_out (reading_in count)) ≡ reader_out (reading_in count)
