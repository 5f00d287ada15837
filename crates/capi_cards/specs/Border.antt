-- The results of the card calls as C has them: a refusal as number, place and value, a part of a slice as a position and a length. Assumes nothing.
use Rattle.std.specs.Prelude.{ℕ, ◌+◌, ◌*◌, ◌≡◌, List, ltb, ℤ, length, ⊤, Result, Ok, Err}
use Rattle.lists.specs.Pick.{pick}
use Rattle.refusal.specs.declared.Refusal.{Refusal}
use Rattle.refusal.specs.declared.Told.{Told}
use Rattle.refusal.specs.Refusal.{says, told_of, verdict_told}
use Rattle.map.specs.Map.{image_bytes}
use Rattle.card.specs.Card.{no_mending}
use Rattle.card.specs.declared.Mending.{Mending}
use Rattle.calibration.specs.Calibration.{no_calibration}
use Rattle.calibration.specs.declared.Calibration.{Calibration}
use Rattle.eeprom.specs.declared.Loaded.{Loaded}
use Rattle.eeprom.specs.Load.{Tables, Loads}
use Rattle.listing.specs.Index.{Lists}
use Rattle.listing.specs.Read.{Reads}
use Rattle.writer.specs.Write.{Writes}
use Rattle.capi_record.specs.Record.{record_out}
use Rattle.capi_cards.specs.declared.Load.{Load}
use Rattle.capi_cards.specs.declared.Outcome.{Outcome}
use Rattle.capi_cards.specs.declared.Part.{Part}

-- a refusal's numbers, a record and the mended words
abbrev pub load_of : Told → Calibration → Mending → Load
load_of told calibration mending = record {
  number = told.number;
  place = told.place;
  value = told.value;
  mended = mending.count;
  last_mended = mending.last;
  calibration = record_out calibration;
}

-- the result of a load; after a refusal the record is all zero, no word is mended, and the last one is 832
abbrev pub loaded_out : Result Loaded Refusal → Load
loaded_out (Ok l) = load_of (says 0 0 0) l.calibration l.mending
loaded_out (Err refusal) = load_of (told_of refusal) no_calibration no_mending

-- some inner result meets the load's promise `Loads` for the image, the basic range and the tables before and after; and C's result is that one, converted
pub record Loading (image : List ℕ) (range : ℕ) (before after : Tables) (r : Load) : Type 0 where
  pub inner : Result Loaded Refusal
  pub loads : Loads image range before after inner
  pub out : r ≡ loaded_out inner

-- the result of a call that returns nothing but a verdict
abbrev pub outcome_of : Result ⊤ Refusal → Outcome
outcome_of v = record { number = (verdict_told v).number; place = (verdict_told v).place; value = (verdict_told v).value }

-- some inner verdict meets `Writes` for the lists and the image before and after; and C's result is that one, converted
pub record Writing (from : Lists) (before after : List ℕ) (r : Outcome) : Type 0 where
  pub inner : Result ⊤ Refusal
  pub writes : Writes from before after inner
  pub out : r ≡ outcome_of inner

-- some inner verdict meets `Reads` for the image and the lists before and after; and C's result is that one, converted
pub record Reading (image : List ℕ) (before after : Lists) (r : Outcome) : Type 0 where
  pub inner : Result ⊤ Refusal
  pub reads : Reads image before after inner
  pub out : r ≡ outcome_of inner

-- the row of alpha as a position in the image and a length
unfoldable pub row_place : List ℕ → ℕ → Part
row_place image row =
    pick (ltb 5 row) (record { start = 0; length = 0 })
    (pick (ltb (length image) image_bytes) (record { start = 0; length = 0 }) (record { start = 512 + row * 64; length = 64 }))

-- the position of a subpage's offsets, which are the first entries of their table
abbrev pub offsets_place : List ℤ → Part
offsets_place part = record { start = 0; length = length part }
