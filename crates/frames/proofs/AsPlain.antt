-- No test reads the compensation reading: proves specs/Filtered. Assumes nothing.
use Prim.Native.Nat.{ℕ}
use mathlib.Core.Path.{refl}
use mathlib.Core.List.{List}
use Rattle.frames.specs.Frames.{PassCall, ir_verdict, pass_verdict}
use Rattle.frames.specs.Ranged.{ranged_verdict}
use Rattle.frames.specs.Filtered.{AsPlain}

pub as_plain : (f : PassCall) (d : List ℕ) → AsPlain f d
unfolding ir_verdict pass_verdict ranged_verdict
as_plain f d = record { infrared = λ x. refl; pass = λ x. refl; ranged = λ x. refl; not_yet = refl }
