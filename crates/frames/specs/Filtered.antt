-- Document 02, CR 11, for any camera: a filtered call is refused exactly when its plain form is, and while the filter has no average it equals the plain
-- call. Assumes nothing.
use Rattle.std.specs.Prelude.{◌≡◌, List, ℕ, Option, None, Float}
use Rattle.frames.specs.Frames.{IrCall, PassCall, own_reading, steadied, ir_verdict, pass_verdict}
use Rattle.frames.specs.Ranged.{ranged_verdict}

-- the same infrared call with another compensation reading
abbrev pub with_reading : IrCall → Float → IrCall
with_reading f x = record {
  size = f.size;
  constants = f.constants;
  settings = f.settings;
  ram = f.ram;
  compensation = x;
  access_cp = f.access_cp;
  table = f.table;
  offset = f.offset;
  k_v = f.k_v;
  k_ta = f.k_ta;
  access = f.access;
  pixels = f.pixels;
  mask = f.mask;
}

-- the same one-pass call with another compensation reading
abbrev pub pass_with : PassCall → Float → PassCall
pass_with f x = record { ir = with_reading f.ir x; ranges = f.ranges; alpha = f.alpha }

-- the call with what a filter returned
abbrev pub filtered_pass : PassCall → Option Float → PassCall
filtered_pass f x = pass_with f (steadied x f.ir.ram)

-- the plain call, with the frame's own compensation reading
abbrev pub plain_pass : PassCall → PassCall
plain_pass f = pass_with f (own_reading f.ir.ram)

-- for any call and any destination d, the filtered forms of infrared, one pass and second pass have the plain forms' verdicts
pub record AsPlain (f : PassCall) (d : List ℕ) : Type 0 where
  pub infrared : (x : Option Float) → ir_verdict (filtered_pass f x).ir d ≡ ir_verdict (plain_pass f).ir d
  pub pass : (x : Option Float) → pass_verdict (filtered_pass f x) d ≡ pass_verdict (plain_pass f) d
  pub ranged : (x : Option Float) → ranged_verdict (filtered_pass f x) d ≡ ranged_verdict (plain_pass f) d
  -- with `None` the calls are equal, and so is all that they promise
  pub not_yet : filtered_pass f None ≡ plain_pass f
