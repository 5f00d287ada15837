-- Laws of any camera's calls, for this camera's. (Demand and Lost of frames/specs and frames/proofs/Single hold for any call, and so for these.)
-- Assumes nothing.
use Rattle.std.specs.Prelude.{ℕ, ◌≡◌, List, ℤ, Float}
use Rattle.frames.specs.OneOrTwo.{OneOrTwo, second}
use Rattle.frames.specs.Filtered.{AsPlain}
use Rattle.record640.specs.declared.Calibration.{Calibration}
use Rattle.frames640.specs.declared.Input.{Input}
use Rattle.frames640.specs.Frames.{ir_call, to_call, pass_call}

-- for any call's arguments
pub record OfThisCamera (c : Calibration) (f : Input) (x : Float) (o : List ℤ) (alpha t : List Float) (p m : List ℕ) : Type 0 where
  -- document 02, CR 12: one pass or two calls, the second with the same subpage
  pub second_call : (t_a : Float) → second (pass_call c (ir_call c f x o t p m) alpha) t_a ≡ to_call c f.settings f.subpage t_a alpha m
  pub one_or_two : (d : List ℕ) → OneOrTwo (pass_call c (ir_call c f x o t p m) alpha) d
  -- document 02, CR 11: the filtered forms are refused as the plain ones
  pub as_plain : (d : List ℕ) → AsPlain (pass_call c (ir_call c f x o t p m) alpha) d
