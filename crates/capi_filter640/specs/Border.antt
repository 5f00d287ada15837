-- The arguments that C passes to an MLX90640's filtered frame call. Assumes nothing.
use Rattle.frames640.specs.declared.FilteredInput.{FilteredInput}
use Rattle.capi_filter.specs.Border.{steadied_in}
use Rattle.capi_frames640.specs.Border.{input_in}
use Rattle.capi_filter640.specs.declared.Filtered640.{Filtered640}

-- the inputs of a filtered frame, from C's
abbrev pub filtered_in : Filtered640 → FilteredInput
filtered_in f = record { input = input_in f.input; compensation = steadied_in f.compensation }
