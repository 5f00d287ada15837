-- In the chess pattern the access terms are +0, so its infrared values are those of document 01's formula. Assumes nothing.
use Rattle.std.specs.Prelude.{ℕ, ◌≡◌, List, ℤ, pos, get_or, Float}
use Rattle.std.specs.Float.{nan}
use Rattle.floats.specs.Floats.{real}
use Rattle.floats.specs.Constants.{plus_zero}
use Rattle.formulas.specs.Pixel.{infrared_of}
use Rattle.pixels.specs.Pixels.{reading_at}
use Rattle.frames.specs.Frames.{common, infrared_at}
use Rattle.record640.specs.declared.Calibration.{Calibration}
use Rattle.rows640.specs.declared.Pattern.TheVariants.{Chess}
use Rattle.rows640.specs.Rows.{k_v_at}
use Rattle.frames640.specs.declared.Input.{Input}
use Rattle.frames640.specs.Frames.{constants_of, ir_call}

-- for any call's arguments, and pixel k
pub record PlainInChess (c : Calibration) (f : Input) (x : Float) (o : List ℤ) (t : List Float) (p m : List ℕ) (k : ℕ) : Type 0 where
  pub infrared : f.pattern ≡ Chess
      → infrared_at (ir_call c f x o t p m) k
      ≡ infrared_of (constants_of c f.subpage) (common (ir_call c f x o t p m)) x plus_zero (reading_at p k) (real (get_or o k (pos 0))) (k_v_at c.k_v k) (get_or t k nan) plus_zero
