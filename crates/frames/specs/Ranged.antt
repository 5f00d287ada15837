-- Document 02, CR 9: the second pass. A pixel's basic temperature, as one pass computes it, selects the range that holds it; that range's numbers give the
-- temperature that is written. Assumes nothing.
use Rattle.std.specs.Prelude.{ℕ, List, ◌++◌, pos, get_or, ⊤, Result, Float}
use Rattle.std.specs.Float.{nan}
use Rattle.floats.specs.Floats.{real}
use Rattle.root.specs.Root.{celsius}
use Rattle.refusal.specs.declared.Refusal.{Refusal}
use Rattle.refusal.specs.Order.{first_of}
use Rattle.ranges.specs.Corners.{corner_tests, range_of}
use Rattle.formulas.specs.declared.Range.{Range}
use Rattle.formulas.specs.Pixel.{ranged_of}
use Rattle.gates.specs.Gate.{one_pass_tests}
use Rattle.pixels.specs.Pixels.{temperature_bits}
use Rattle.frames.specs.declared.Frame.{Frame}
use Rattle.frames.specs.Frames.{Ranges, ToCall, PassCall, onward, common, infrared_at, reflected_term, sensitivity_at, final_at, pass_lengths, Writes}

-- corner, K_sTo and coefficient of range r
abbrev pub range_at : Ranges → ℕ → Range
range_at g r = record { corner = real (get_or g.corners r (pos 0)); k_s_to = get_or g.k_s_to r nan; coefficient = get_or g.coefficients r nan }

-- X of pixel k in the second pass, where v gives the infrared values: by the range that holds the pixel's basic temperature
unfoldable pub ranged_at : ToCall → (ℕ → Float) → ℕ → Float
ranged_at f v k =
    let basic = celsius (final_at f v k) in
    let g = f.ranges in
    ranged_of (range_at g (range_of g.count g.corners basic)) (reflected_term f) (sensitivity_at f k) (v k) basic

-- the first refusal, or a pass: the tests of one pass, and then 12
unfoldable pub ranged_verdict : PassCall → List ℕ → Result ⊤ Refusal
ranged_verdict f d =
    first_of (one_pass_tests f.ir.constants f.ir.settings.emissivity f.ir.ram f.ranges.count f.ir.settings.basic_range (pass_lengths f d)
    ++ corner_tests f.ranges.count f.ranges.corners)

-- what the call does: it writes temperatures of the second pass
abbrev pub RangedPasses : PassCall → List ℕ → List ℕ → Result Frame Refusal → Type 0
RangedPasses f d d' r =
    Writes f.ir.size (ranged_verdict f d) (common f.ir).t_a f.ir.mask
    (temperature_bits (ranged_at (onward f) (infrared_at f.ir)) (infrared_at f.ir)) d d' r
