-- Document 02, request 5: the effect of one call, and the state after any sequence of calls. Assumes nothing.
use Rattle.std.specs.Prelude.{ℕ, eqb, ltb, length, take, Option, Some, None, is_none, Result, Err}
use mathlib.Core.List.{List, [], ◌∷◌, ◌++◌, foldl}
use Rattle.lists.specs.Pick.{pick}
use Rattle.refusal.specs.declared.Refusal.{Refusal}
use Rattle.refusal.specs.declared.Refusal.TheVariants.{ShortImage, ShortTable, DamagedWord}
use Rattle.refusal.specs.Refusal.{unless}
use Rattle.util.specs.Words.{word_at}
use Rattle.map.specs.Map.{card_words, image_bytes, frame_pixels}
use Rattle.card.specs.Card.{data_at}
use Rattle.eeprom.specs.declared.Loaded.{Loaded}
use Rattle.eeprom.specs.Load.{Tables, shortest, filled_tables, load_verdict, giving, loaded}
use Rattle.reader.specs.declared.Reading.{Reading}
use Rattle.reader.specs.declared.Taken.{Taken}
use Rattle.reader.specs.Bytes.{Held, held, fed, first_spoilt, kept_of, state_of}

-- ---- the result of a load

-- what a load of this image returns
unfoldable pub loaded_of : List ℕ → ℕ → Tables → Result Loaded Refusal
loaded_of image range t = giving (load_verdict image range t) (loaded image range)

-- the tables after a load of this image
unfoldable pub lent_after : List ℕ → ℕ → Tables → Tables
lent_after image range t = unless (load_verdict image range t) (filled_tables (data_at image) t) t

-- ---- the answers

-- an answer: none while more bytes are wanted
abbrev pub Answer : Type 0
Answer = Option (Result Loaded Refusal)

-- more bytes are wanted
abbrev pub more : Answer
more = None

-- the reading has ended with this result of a load
abbrev pub ends : Result Loaded Refusal → Answer
ends loaded = Some loaded

-- the reading has ended with this refusal, as a refused load returns it
abbrev pub refused : Refusal → Answer
refused refusal = ends (Err refusal)

-- ---- a call

-- the state of a reading before its first byte
abbrev pub start : Reading
start = record { count = 0; answer = more }

-- an answer, and the tables after the call
pub record Judged : Type 0 where
  pub answer : Answer
  pub lent : Tables

-- an answer and tables as `Judged`
abbrev pub judged : Answer → Tables → Judged
judged answer t = record { answer = answer; lent = t }

-- the answer for the bytes kept: a damaged word is refused, fewer than 1,664 want more, a whole card is loaded with this range into these tables
unfoldable pub judges : Held → ℕ → Tables → Judged
judges h range t =
    pick (ltb h.damaged card_words) (judged (refused (DamagedWord h.damaged (word_at h.image h.damaged))) t)
    (pick (ltb h.count image_bytes) (judged more t)
    (judged (ends (loaded_of h.image range t)) (lent_after h.image range t)))

-- the outcome of a call: the caller's array and tables afterwards, and what the call returns
pub record After : Type 0 where
  pub image : List ℕ
  pub lent : Tables
  pub taken : Taken

-- these three as `After`
abbrev pub after : List ℕ → Tables → Taken → After
after image t r = record { image = image; lent = t; taken = r }

-- the outcome of a call that has taken its piece
abbrev pub answering : Held → ℕ → Tables → After
answering h range t =
    let j = judges h range t in
    after h.image j.lent (record { reading = record { count = h.count; answer = j.answer }; answer = j.answer })

-- the outcome of a call in a reading that has not ended: short tables are refused, an empty piece changes nothing, any other piece is taken
unfoldable pub takes_on : List ℕ → Reading → List ℕ → ℕ → Tables → After
takes_on image reading piece range t =
    pick (ltb (shortest t) frame_pixels) (after image t (record { reading = reading; answer = refused ShortTable }))
    (pick (eqb (length piece) 0) (after image t (record { reading = reading; answer = reading.answer }))
    (answering (fed (held image reading.count card_words) piece) range t))

-- the outcome of `take`: a reading that has ended repeats its answer and changes nothing
unfoldable pub takes : List ℕ → Reading → List ℕ → ℕ → Tables → After
takes image reading piece range t =
    pick (is_none reading.answer) (takes_on image reading piece range t)
    (after image t (record { reading = reading; answer = reading.answer }))

-- the outcome of `finished`: a reading of fewer than 1,664 bytes that has not ended ends with refusal 1 and its number of bytes
unfoldable pub finishes : Reading → Reading
finishes reading =
    pick (is_none reading.answer)
    (pick (ltb reading.count image_bytes) (record { count = reading.count; answer = refused (ShortImage reading.count) }) reading)
    reading

-- ---- any calls

-- a call of `take`, with a piece, a basic range and tables of its own
pub record Call : Type 0 where
  pub piece : List ℕ
  pub range : ℕ
  pub lent : Tables

-- a call of `take` or of `finished`
pub data Event : Type 0 where
  took : Call → Event
  finished : Event

-- the state between calls: the caller's array and the state of the reading
pub record State : Type 0 where
  pub image : List ℕ
  pub reading : Reading

-- the outcome of a call of `take` in a state
abbrev pub calling : State → Call → After
calling s c = takes s.image s.reading c.piece c.range c.lent

-- the state after a call
abbrev pub leaves : State → Event → State
leaves s (took c) = record { image = (calling s c).image; reading = (calling s c).taken.reading }
leaves s finished = record { image = s.image; reading = finishes s.reading }

-- the state after several calls
abbrev pub after_calls : State → List Event → State
after_calls s calls = foldl leaves s calls

-- the state before the first call
abbrev pub begun : List ℕ → State
begun lent = record { image = lent; reading = start }

-- ---- what the bytes so far determine, however they were cut into pieces

-- the bytes that a call brings: its piece, or none if its tables are short
abbrev pub brings : Call → List ℕ
brings c = pick (ltb (shortest c.lent) frame_pixels) [] c.piece

-- the bytes that calls bring, up to "finished"
unfoldable pub taken_of : List Event → List ℕ
taken_of [] = []
taken_of (took c ∷ calls) = brings c ++ taken_of calls
taken_of (finished ∷ calls) = []

-- the answer for all bytes so far, for a call with this range and these tables: a damaged word, more wanted, or the load of the first 1,664 bytes
unfoldable pub judged_of : List ℕ → ℕ → Tables → Judged
judged_of bytes range t =
    pick (ltb (first_spoilt bytes) card_words) (judged (refused (DamagedWord (first_spoilt bytes) (word_at bytes (first_spoilt bytes)))) t)
    (pick (ltb (length bytes) image_bytes) (judged more t)
    (judged (ends (loaded_of (take image_bytes bytes) range t)) (lent_after (take image_bytes bytes) range t)))

-- the answer after the given bytes and then these calls: that of the first call that ends the reading; `finished` ends it with refusal 1
unfoldable pub heard : List ℕ → List Event → Answer
heard bytes [] = more
heard bytes (took c ∷ calls) =
    let here = (judged_of (bytes ++ brings c) c.range c.lent).answer in
    pick (is_none here) (heard (bytes ++ brings c) calls) here
heard bytes (finished ∷ calls) = refused (ShortImage (length bytes))

-- the state after any calls, as the bytes that they bring determine it
abbrev pub said_by : List ℕ → List Event → State
said_by lent calls = record {
  image = (state_of lent (taken_of calls)).image;
  reading = record { count = kept_of (taken_of calls); answer = heard [] calls };
}
