-- The result of a scrub as C has it: the refusal's number, place and value, and the two counts. Assumes nothing.
use Rattle.std.specs.Prelude.{◌≡◌, Result, Ok, Err}
use Rattle.refusal.specs.declared.Refusal.{Refusal}
use Rattle.refusal.specs.Refusal.{told_of}
use Rattle.scrub.specs.declared.Counts.{Counts}
use Rattle.scrub.specs.Scrub.{Lent, no_counts, Scrubs}
use Rattle.capi_scrub.specs.declared.Scrub.{Scrub}

-- the result as C has it: the counts, or the refusal and no counts
abbrev pub scrubbed_out : Result Counts Refusal → Scrub
scrubbed_out (Ok counts) = record { number = 0; place = 0; value = 0; changed = counts.changed; damaged = counts.damaged }
scrubbed_out (Err refusal) = record {
  number = (told_of refusal).number;
  place = (told_of refusal).place;
  value = (told_of refusal).value;
  changed = no_counts.changed;
  damaged = no_counts.damaged;
}

-- some inner result meets the scrub's promise `Scrubs` for the caller's slices before and after; and C's result is that one, converted
pub record Scrubbing (before after : Lent) (r : Scrub) : Type 0 where
  pub inner : Result Counts Refusal
  pub scrubs : Scrubs before after inner
  pub out : r ≡ scrubbed_out inner
