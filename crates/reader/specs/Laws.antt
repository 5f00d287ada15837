-- Document 02, request 5: what is proved of the calls. Assumes nothing.
use Rattle.std.specs.Prelude.{ℕ, ◌+◌, ◌<◌, ◌≤◌, min, ◌≡◌, true, false, List, [], ◌∷◌, ◌++◌, map, ltb, length, take, is_none, IsSomeAnd}
use Rattle.lists.specs.Pick.{pick}
use Rattle.refusal.specs.declared.Refusal.{Refusal}
use Rattle.refusal.specs.declared.Refusal.TheVariants.{ShortImage, ShortTable}
use Rattle.map.specs.Map.{image_bytes, frame_pixels}
use Rattle.eeprom.specs.Load.{Tables, shortest, Loads}
use Rattle.reader.specs.Calls.{more, refused, after, finishes, Call, Event, took, finished, State, calling, after_calls, begun, taken_of, said_by}

-- ---- any calls from the first on, with an array of a card's size

-- 1 for a call with a piece that is not empty and tables that are long enough, else 0
abbrev pub offers : Event → ℕ
offers (took c) = pick (ltb (shortest c.lent) frame_pixels) 0 (min 1 (length c.piece))
offers finished = 0

-- the number of such calls
unfoldable pub offered : List Event → ℕ
offered [] = 0
offered (k ∷ calls) = offers k + offered calls

-- the bytes that calls of `take` bring, with no `finished` between them
abbrev pub bytes_of : List Call → List ℕ
bytes_of calls = taken_of (map took calls)

-- what holds of any calls on an array of a card's size
pub record Reads (lent : List ℕ) : Type 0 where
  -- the state is the one that the bytes taken determine, however they were cut into pieces
  pub means : (calls : List Event) → after_calls (begun lent) calls ≡ said_by lent calls
  -- while more bytes are wanted, the answer holds no refusal and no record
  pub so_far : (calls : List Event) → is_none (after_calls (begun lent) calls).reading.answer ≡ true → (after_calls (begun lent) calls).reading.answer ≡ more
  -- after 1,664 pieces that are not empty the reading has ended, whatever empty pieces, short tables and `finished` come between them
  pub in_time : (calls : List Event) → image_bytes ≤ offered calls → is_none (after_calls (begun lent) calls).reading.answer ≡ false
  -- the call that brings byte 1,664, however the bytes were cut: it ends the reading, and its answer and tables meet the contract of a load of the card
  pub whole :
      (calls : List Call) (c : Call)
      → length (bytes_of calls) < image_bytes → image_bytes ≤ length (bytes_of calls ++ c.piece) → frame_pixels ≤ shortest c.lent
      → let a = calling (after_calls (begun lent) (map took calls)) c in
      IsSomeAnd a.taken.answer (λ r. Loads (take image_bytes (bytes_of calls ++ c.piece)) c.range c.lent a.lent r)

-- ---- any state, also one that no calls made

-- what holds of a call in any state
pub record AnyState (s : State) : Type 0 where
  -- a reading that has ended repeats its answer and changes nothing
  pub ended :
      (c : Call) → is_none s.reading.answer ≡ false
      → calling s c ≡ after s.image c.lent (record { reading = s.reading; answer = s.reading.answer })
  -- before that, short tables are refused and everything stays as it is
  pub short :
      (c : Call) → is_none s.reading.answer ≡ true → shortest c.lent < frame_pixels
      → calling s c ≡ after s.image c.lent (record { reading = s.reading; answer = refused ShortTable })
  -- an empty piece changes nothing
  pub empty :
      (range : ℕ) (t : Tables) → is_none s.reading.answer ≡ true → frame_pixels ≤ shortest t
      → calling s (record { piece = []; range = range; lent = t }) ≡ after s.image t (record { reading = s.reading; answer = s.reading.answer })
  -- a call that wants more bytes changes no table
  pub wanting : (c : Call) → is_none (calling s c).taken.answer ≡ true → (calling s c).lent ≡ c.lent
  -- nor does a call that refuses
  pub refusing : (c : Call) (r : Refusal) → (calling s c).taken.answer ≡ refused r → (calling s c).lent ≡ c.lent
  -- `finished` ends a reading of fewer than 1,664 bytes with refusal 1 and their number
  pub early :
      is_none s.reading.answer ≡ true → s.reading.count < image_bytes
      → finishes s.reading ≡ record { count = s.reading.count; answer = refused (ShortImage s.reading.count) }
  -- it leaves a state with 1,664 bytes or more as it is
  pub full : image_bytes ≤ s.reading.count → finishes s.reading ≡ s.reading
  -- it leaves a reading that has ended as it is
  pub late : is_none s.reading.answer ≡ false → finishes s.reading ≡ s.reading
