-- For inner functions only: the records of Frames built from the caller's slices, and what a call does, by what is wanted. Assumes nothing.
use Rattle.std.specs.Prelude.{ℕ, min, ◌*◌, ◌<◌, true, List, ◌++◌, T, ℤ, pos, get_or, ⊤, Result, Float}
use Rattle.std.specs.Float.{nan}
use Rattle.floats.specs.Floats.{real}
use Rattle.refusal.specs.declared.Refusal.{Refusal}
use Rattle.refusal.specs.Order.{Test}
use Rattle.roots.specs.Many.{side}
use Rattle.ranges.specs.Corners.{corner_tests}
use Rattle.formulas.specs.declared.CommonToData.{CommonToData}
use Rattle.formulas.specs.declared.Constants.{Constants}
use Rattle.formulas.specs.declared.Settings.{Settings}
use Rattle.gates.specs.declared.Lengths.{Lengths}
use Rattle.gates.specs.Gate.{infrared_tests, one_pass_tests}
use Rattle.pixels.specs.declared.Goal.{Goal}
use Rattle.pixels.specs.Pixels.{infrared_bits, temperature_bits}
use Rattle.pixels.specs.Inner.{in_turn}
use Rattle.frames.specs.declared.Call.{Call}
use Rattle.frames.specs.declared.Frame.{Frame}
use Rattle.frames.specs.declared.Wanted.{Wanted}
use Rattle.frames.specs.declared.Wanted.TheVariants.{Infrared, Temperature, Ranged}
use Rattle.frames.specs.Frames.{IrCall, ToCall, PassCall, Ranges, common, infrared_at, final_at, onward, ir_verdict, pass_verdict, Writes}
use Rattle.frames.specs.Ranged.{ranged_at, ranged_verdict}

-- ---- the call's records, from the caller's slices

-- the arguments of an infrared call; K_V and access terms repeat the blocks of their lists
abbrev pub any_ir : Call → List ℕ → List ℤ → List Float → List Float → List Float → List ℕ → IrCall
any_ir c p o t v a m = record {
  size = c.blocks * side;
  constants = c.constants;
  settings = c.settings;
  ram = c.ram;
  compensation = c.compensation;
  access_cp = c.access_cp;
  table = c.table;
  offset = λ k. real (get_or o k (pos 0));
  k_v = in_turn v c.k_v_blocks;
  k_ta = λ k. get_or t k nan;
  access = in_turn a c.access_blocks;
  pixels = p;
  mask = m;
}

-- the ranges of a record
abbrev pub ranges_of : ℕ → List ℤ → List Float → List Float → Ranges
ranges_of n corners k f = record { count = n; corners = corners; k_s_to = k; coefficients = f }

-- the arguments of a one-pass call
abbrev pub any_pass : IrCall → Ranges → List Float → PassCall
any_pass f g alpha = record { ir = f; ranges = g; alpha = alpha }

-- the arguments of an infrared-to-temperature call
abbrev pub any_to : Constants → Settings → Float → ℕ → Ranges → List Float → List ℕ → ToCall
any_to c s t_a blocks g alpha m = record { size = blocks * side; ranges = g; constants = c; settings = s; ambient = t_a; alpha = alpha; mask = m }

-- ---- by what is wanted

-- the lengths to test, with the alpha table of length `alpha` among the tables
abbrev pub shorter : Lengths → ℕ → Lengths
shorter l alpha = record { size = l.size; table = min alpha l.table; pixels = l.pixels; destination = l.destination; mask = l.mask }

-- the tests of a call, in order
abbrev pub tests_of : Wanted → Call → List ℤ → ℕ → Lengths → List Test
tests_of Infrared c corners alpha l = infrared_tests c.constants c.settings.emissivity c.ram l
tests_of Temperature c corners alpha l = one_pass_tests c.constants c.settings.emissivity c.ram c.ranges c.settings.basic_range (shorter l alpha)
tests_of Ranged c corners alpha l =
    one_pass_tests c.constants c.settings.emissivity c.ram c.ranges c.settings.basic_range (shorter l alpha) ++ corner_tests c.ranges corners

-- the first refusal of a call, or a pass
abbrev pub verdict_of : Wanted → PassCall → List ℕ → Result ⊤ Refusal
verdict_of Infrared f d = ir_verdict f.ir d
verdict_of Temperature f d = pass_verdict f d
verdict_of Ranged f d = ranged_verdict f d

-- the bits that pixel k is written as
abbrev pub made_bits : Wanted → PassCall → ℕ → ℕ
made_bits Infrared f k = infrared_bits (infrared_at f.ir) k
made_bits Temperature f k = temperature_bits (final_at (onward f) (infrared_at f.ir)) (infrared_at f.ir) k
made_bits Ranged f k = temperature_bits (ranged_at (onward f) (infrared_at f.ir)) (infrared_at f.ir) k

-- what the call does: `Infrareds`, `Passes` or `RangedPasses`
abbrev pub Makes : Wanted → PassCall → List ℕ → List ℕ → Result Frame Refusal → Type 0
Makes w f d d' r = Writes f.ir.size (verdict_of w f d) (common f.ir).t_a f.ir.mask (made_bits w f) d d' r

-- if temperatures are wanted, the basic range is an index below n
abbrev pub InRange : Wanted → ℕ → ℕ → Type 0
InRange Infrared range n = T true
InRange Temperature range n = range < n
InRange Ranged range n = range < n

-- what the pixel loop is to compute
abbrev pub goal_by : Wanted → CommonToData → ℕ → Goal
goal_by Infrared c n = Goal.Infrared
goal_by Temperature c n = Goal.Temperature c
goal_by Ranged c n = Goal.Ranged c n
