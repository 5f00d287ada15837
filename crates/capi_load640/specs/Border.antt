-- The result of a load as C has it: the refusal's number, place and value, and the record. Assumes nothing.
use Rattle.std.specs.Prelude.{ℕ, ◌≡◌, List, Result, Ok, Err}
use Rattle.refusal.specs.declared.Refusal.{Refusal}
use Rattle.refusal.specs.Refusal.{told_of}
use Rattle.record640.specs.declared.Calibration.{Calibration}
use Rattle.record640.specs.Record.{no_calibration}
use Rattle.load640.specs.Load.{Tables, Loads}
use Rattle.capi_record640.specs.Record.{record_out}
use Rattle.capi_load640.specs.declared.Load640.{Load640}

-- the result as C has it: after a refusal the record is all zero, without a gradient
abbrev pub loaded_out : Result Calibration Refusal → Load640
loaded_out (Ok calibration) = record { number = 0; place = 0; value = 0; calibration = record_out calibration }
loaded_out (Err refusal) = record {
  number = (told_of refusal).number;
  place = (told_of refusal).place;
  value = (told_of refusal).value;
  calibration = record_out no_calibration;
}

-- some inner result meets the load's promise `Loads` for the image, the basic range and the tables before and after; and C's result is that one, converted
pub record Loading (image : List ℕ) (range : ℕ) (before after : Tables) (r : Load640) : Type 0 where
  pub inner : Result Calibration Refusal
  pub loads : Loads image range before after inner
  pub out : r ≡ loaded_out inner
