-- A reader's state and results as C has them. Assumes nothing.
use Rattle.std.specs.Prelude.{ℕ, Bool, List, eqb, is_none, unwrap_or, Result, Ok}
use Rattle.lists.specs.Pick.{pick}
use Rattle.refusal.specs.declared.Refusal.{Refusal}
use Rattle.card.specs.Card.{no_mending}
use Rattle.calibration.specs.Calibration.{no_calibration}
use Rattle.eeprom.specs.declared.Loaded.{Loaded}
use Rattle.eeprom.specs.Load.{Tables}
use Rattle.reader.specs.declared.Reading.{Reading}
use Rattle.reader.specs.Calls as inner
use Rattle.reader.specs.Calls.{Answer, more, takes, finishes}
use Rattle.capi_cards.specs.declared.Load.{Load}
use Rattle.capi_cards.specs.Border.{loaded_out}
use Rattle.capi_reader.specs.declared.Reader.{Reader}
use Rattle.capi_reader.specs.declared.Taken.{Taken}

-- what stands for a result while more bytes are wanted: no refusal, no mended word and a record of zeros
abbrev pub nothing : Result Loaded Refusal
nothing = Ok (record { calibration = no_calibration; mending = no_mending })

-- the result of a call
abbrev pub answer_out : Answer → Load
answer_out a = loaded_out (unwrap_or a nothing)

-- the flag `ended`: 1 if no more bytes are wanted
abbrev pub ended_of : Bool → ℕ
ended_of more = pick more 0 1

-- a reading as C has it
abbrev pub reader_out : Reading → Reader
reader_out r = record { count = r.count; ended = ended_of (is_none r.answer); answer = answer_out r.answer }

-- a reading that has not ended, with `count` bytes kept
abbrev pub reading_in : ℕ → Reading
reading_in count = record { count = count; answer = more }

-- what a call gives while more bytes are wanted
abbrev pub wanting_out : ℕ → Taken
wanting_out count = record { reader = reader_out (reading_in count); answer = answer_out more }

-- what a call leaves: the caller's array, the tables, and the result
pub record After : Type 0 where
  pub image : List ℕ
  pub lent : Tables
  pub taken : Taken

-- what a call leaves, made of its three parts
abbrev pub after : List ℕ → Tables → Taken → After
after image t r = record { image = image; lent = t; taken = r }

-- what an inner call leaves, as C has it
abbrev pub after_out : inner.After → After
after_out a = after a.image a.lent (record { reader = reader_out a.taken.reading; answer = answer_out a.taken.answer })

-- what `take` does: once the reading has ended, it returns the same result and changes nothing; or else it does what the inner call does
unfoldable pub takes_out : List ℕ → Reader → List ℕ → ℕ → Tables → After
takes_out image reader piece range t =
    pick (eqb reader.ended 0) (after_out (takes image (reading_in reader.count) piece range t))
    (after image t (record { reader = reader; answer = reader.answer }))

-- what `finished` does
unfoldable pub finishes_out : Reader → Reader
finishes_out reader = pick (eqb reader.ended 0) (reader_out (finishes (reading_in reader.count))) reader
