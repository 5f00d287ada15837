-- What a filter returns, as C has it, and back. Assumes nothing.
use Rattle.std.specs.Prelude.{eqb, Option, None, Some, Float}
use Rattle.lists.specs.Pick.{pick}
use Rattle.floats.specs.Constants.{plus_zero}
use Rattle.calculations.specs.declared.FilteredInput.{FilteredInput}
use Rattle.capi_frames.specs.Border.{input_in}
use Rattle.capi_filter.specs.declared.Average.{Average}
use Rattle.capi_filter.specs.declared.Filtered.{Filtered}

-- what a filter returns, as C has it: `None` is `ready` 0 and the average +0
abbrev pub average_out : Option Float → Average
average_out None = record { average = plus_zero; ready = 0 }
average_out (Some x) = record { average = x; ready = 1 }

-- what a filter returned, from C's: `ready` 0 is `None`
abbrev pub steadied_in : Average → Option Float
steadied_in a = pick (eqb a.ready 0) None (Some a.average)

-- the inputs of a filtered frame, from C's
abbrev pub filtered_in : Filtered → FilteredInput
filtered_in f = record { input = input_in f.input; compensation = steadied_in f.compensation }
