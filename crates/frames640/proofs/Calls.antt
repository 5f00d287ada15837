-- The MLX90640's call from pixels is any camera's with its numbers: two rows in turn are the chessboard and the access terms. Assumes nothing.
use Prim.Native.Nat.{ℕ, min}
use mathlib.Core.Path.{◌≡◌, refl}
use mathlib.Core.List.{List}
use lib.IntN.{ℤ}
use lib.ListN.{length}
use lib.Ieee.{Float, nan}
use Rattle.std.specs.Prelude.{Result}
use Rattle.refusal.specs.declared.Refusal.{Refusal}
use Rattle.lists.specs.Each.{Each}
use Rattle.formulas.specs.declared.Constants.{Constants}
use Rattle.pixels.specs.Blocks.{is}
use Rattle.frames.specs.declared.Call.{Call}
use Rattle.frames.specs.declared.Frame.{Frame}
use Rattle.frames.specs.declared.Wanted.{Wanted}
use Rattle.frames.specs.Inner.{any_ir, any_pass, Makes}
use Rattle.frames.proofs.Calls.{same-makes}
use Rattle.record640.specs.declared.Calibration.{Calibration}
use Rattle.rows640.specs.Rows.{two_rows, k_v_at, access_at}
use Rattle.rows640.proofs.Turns.{all-rows}
use Rattle.frames640.specs.declared.Input.{Input}
use Rattle.frames640.specs.Frames.{range_count, constants_of, ranges_of, access_cp_of, ir_call, pass_call}

-- the call that the code makes, with constants k, the compensation pixel's access term a and shortest table n
abbrev pub call : Input → Float → Wanted → Constants → Float → ℕ → Call
call f compensation w k a n = record {
  constants = k;
  settings = f.settings;
  ram = f.ram;
  compensation = compensation;
  access_cp = a;
  blocks = 24;
  k_v_blocks = 2;
  access_blocks = 2;
  ranges = range_count;
  table = n;
  wanted = w;
}

pub makes : (c : Calibration) (f : Input) (compensation : Float) (w : Wanted) (o : List ℤ) (alpha t : List Float) (p m : List ℕ) {v access : List Float} {k : Constants} {a : Float} {n : ℕ}
    → Each (is (k_v_at c.k_v)) nan v two_rows → Each (is (access_at f.pattern c.access_pattern)) nan access two_rows
    → k ≡ constants_of c f.subpage → a ≡ access_cp_of f.pattern f.subpage c.access_cp → n ≡ min (length o) (length t) → {d d' : List ℕ} {r : Result Frame Refusal}
    → Makes w (any_pass (any_ir (call f compensation w k a n) p o t v access m) (ranges_of c) alpha) d d' r
    → Makes w (pass_call c (ir_call c f compensation o t p m) alpha) d d' r
makes c f compensation w o alpha t p m {v} {access} {k} {a} {n} rows terms e g h {d} {d'} {r} made =
    let ir = ir_call c f compensation o t p m in
    let turns = all-rows c.k_v c.access_pattern f.pattern in
    same-makes (any_ir (call f compensation w ir.constants ir.access_cp ir.table) p o t v access m) (ranges_of c) alpha
    ir.offset ir.k_v ir.k_ta ir.access
    (λ j l. (refl, turns.k_v rows j, refl, turns.access terms j)) w (rw (e, g, h) at made)
