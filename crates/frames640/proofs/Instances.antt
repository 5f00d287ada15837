-- This camera's calls are instances of any camera's: proves specs/Instances. Assumes nothing.
use Prim.Native.Nat.{ℕ}
use mathlib.Core.Path.{refl}
use mathlib.Core.List.{List}
use lib.IntN.{ℤ}
use lib.Ieee.{Float}
use Rattle.frames.proofs.OneOrTwo as two
use Rattle.frames.proofs.AsPlain as plain
use Rattle.record640.specs.declared.Calibration.{Calibration}
use Rattle.frames640.specs.declared.Input.{Input}
use Rattle.frames640.specs.Instances.{OfThisCamera}

pub of-this-camera : (c : Calibration) (f : Input) (x : Float) (o : List ℤ) (alpha t : List Float) (p m : List ℕ) → OfThisCamera c f x o alpha t p m
of-this-camera c f x o alpha t p m = record { second_call = λ t_a. refl; one_or_two = λ d. two.one_or_two _ d; as_plain = λ d. plain.as_plain _ d }
