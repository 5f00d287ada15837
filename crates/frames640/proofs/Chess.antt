-- In chess every access term is +0: proves specs/Chess. Assumes nothing.
use Prim.Native.Nat.{ℕ}
use mathlib.Core.Path.{refl}
use mathlib.Core.List.{List}
use lib.IntN.{ℤ}
use lib.Ieee.{Float}
use Rattle.frames.specs.Frames.{infrared_at, common}
use Rattle.record640.specs.declared.Calibration.{Calibration}
use Rattle.rows640.specs.Rows.{access_at}
use Rattle.frames640.specs.declared.Input.{Input}
use Rattle.frames640.specs.Chess.{PlainInChess}

pub plain-in-chess : (c : Calibration) (f : Input) (x : Float) (o : List ℤ) (t : List Float) (p m : List ℕ) (k : ℕ) → PlainInChess c f x o t p m k
unfolding infrared_at common access_at
plain-in-chess c f x o t p m k = record { infrared = λ e. rw e refl }
