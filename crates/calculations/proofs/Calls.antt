-- The MLX90641's call from pixels is any camera's with its numbers: below 192 each pixel has its own K_V, and the access term is 0. Assumes nothing.
use Prim.Native.Nat.{ℕ, min}
use mathlib.Core.Path.{◌≡◌, refl}
use mathlib.Core.List.{List}
use lib.IntN.{ℤ}
use lib.ListN.{length, replicate}
use lib.Ieee.{Float}
use Rattle.std.specs.Prelude.{Result}
use Rattle.refusal.specs.declared.Refusal.{Refusal}
use Rattle.floats.specs.Constants.{plus_zero}
use Rattle.roots.specs.Many.{side}
use Rattle.calibration.specs.declared.Calibration.{Calibration}
use Rattle.calibration.specs.Coefficients.{range_count}
use Rattle.eeprom.specs.Parts.{offsets_of}
use Rattle.formulas.specs.declared.Constants.{Constants}
use Rattle.pixels.proofs.Blocks.{in-turn-whole, in-turn-same}
use Rattle.frames.specs.declared.Call.{Call}
use Rattle.frames.specs.declared.Frame.{Frame}
use Rattle.frames.specs.declared.Wanted.{Wanted}
use Rattle.frames.specs.Inner.{any_ir, any_pass, Makes}
use Rattle.frames.proofs.Calls.{same-makes}
use Rattle.calculations.specs.declared.Input.{Input}
use Rattle.calculations.specs.Frames.{constants_of, ranges_of, ir_call, pass_call}

-- the call that the code makes, with constants k and shortest table n
abbrev pub call : Input → Float → Wanted → Constants → ℕ → Call
call f compensation w k n = record {
  constants = k;
  settings = f.settings;
  ram = f.ram;
  compensation = compensation;
  access_cp = plus_zero;
  blocks = 6;
  k_v_blocks = 6;
  access_blocks = 1;
  ranges = range_count;
  table = n;
  wanted = w;
}

pub makes : (c : Calibration) (f : Input) (compensation : Float) (w : Wanted) (o0 o1 : List ℤ) (alpha v t : List Float) (p m : List ℕ) {k : Constants} {n : ℕ} {o : List ℤ}
    → k ≡ constants_of c → n ≡ min (min (length o0) (length o1)) (min (length v) (length t)) → o ≡ offsets_of o0 o1 f.subpage → {d d' : List ℕ} {r : Result Frame Refusal}
    → Makes w (any_pass (any_ir (call f compensation w k n) p o t v (replicate side plus_zero) m) (ranges_of c) alpha) d d' r
    → Makes w (pass_call c (ir_call c f compensation o0 o1 v t p m) alpha) d d' r
makes c f compensation w o0 o1 alpha v t p m {k} {n} {o} e g h {d} {d'} {r} made =
    let ir = ir_call c f compensation o0 o1 v t p m in
    same-makes (any_ir (call f compensation w (constants_of c) ir.table) p (offsets_of o0 o1 f.subpage) t v (replicate side plus_zero) m) (ranges_of c) alpha
    ir.offset ir.k_v ir.k_ta ir.access
    (λ j l. (refl, in-turn-whole v 6 j l, refl, in-turn-same plus_zero j)) w (rw (e, g, h) at made)
