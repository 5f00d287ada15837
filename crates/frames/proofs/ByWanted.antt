-- A call from pixels, by what is wanted: its verdict, what follows if it passes, and the bits that its pixels are written as. Assumes nothing.
use Prim.Native.Nat.{ℕ, ◌*◌, ◌<◌, ◌≤◌}
use mathlib.Core.Path.{◌≡◌, refl, ap, ◌∙◌}
use mathlib.Core.List.{List}
use native.Mathlib.Omega.{arith}
use lib.IntN.{ℤ}
use lib.ListN.{get_or, length}
use lib.Ieee.{Float, nan}
use Rattle.std.specs.Prelude.{Ok, Option}
use Rattle.refusal.specs.Order.{first_of}
use Rattle.root.specs.Root.{celsius}
use Rattle.roots.specs.Many.{side}
use Rattle.ranges.specs.Corners.{range_of}
use Rattle.formulas.specs.declared.CommonIrData.{CommonIrData}
use Rattle.formulas.specs.declared.CommonToData.{CommonToData}
use Rattle.formulas.specs.Pixel.{ranged_of, answer_of}
use Rattle.formulas.specs.Inner.{compensation_of, common_to_of, lifted_final}
use Rattle.formulas.proofs.Lifted as lifted
use Rattle.pixels.specs.declared.Goal.{Goal}
use Rattle.pixels.specs.declared.Source.TheVariants.{Pixels}
use Rattle.pixels.specs.Pixels.{answer_bits}
use Rattle.pixels.specs.Inner.{Lent, lent, Table, table, raw_of, number_at, lifted_at, ranged_from, lifted_ranged_at, bits_by, WorkableFor}
use Rattle.frames.specs.declared.Call.{Call}
use Rattle.frames.specs.declared.Wanted.{Wanted}
use Rattle.frames.specs.declared.Wanted.TheVariants.{Infrared, Temperature, Ranged}
use Rattle.frames.specs.Frames.{IrCall, PassCall, ToCall, common, infrared_at, sensitivity_at, final_at, onward, ir_lengths, ir_verdict, pass_verdict}
use Rattle.frames.specs.Ranged.{range_at, ranged_at, ranged_verdict}
use Rattle.frames.specs.Inner.{any_ir, ranges_of, any_pass, tests_of, verdict_of, made_bits, InRange, goal_by}
use Rattle.frames.proofs.Opened.{Long, infrared-opened, one-pass-opened, ranged-opened}

-- ---- infrared to temperature, over the values that the code computes once for all pixels

module _ (f : ToCall) where
  abbrev K : Float
  K = get_or f.ranges.k_s_to f.settings.basic_range nan

  abbrev shared : CommonToData
  shared = common_to_of f.constants f.settings f.ambient K

  pub final-is : (v : ℕ → Float) (k : ℕ) → lifted_at shared f.alpha (v k) k ≡ final_at f v k
  unfolding lifted_at final_at
  final-is v k =
      ap (λ (A : Float). lifted_final (v k) A shared) (lifted.sensitivity f.constants f.settings f.ambient K (get_or f.alpha k nan))
      ∙ lifted.final f.constants f.settings f.ambient K (v k) _

  abbrev lists : Table
  lists = table f.alpha f.ranges.corners f.ranges.k_s_to f.ranges.coefficients

  from-basic : (x : Float) (k : ℕ) (basic : Float) (r : ℕ)
      → ranged_from shared lists x k basic r ≡ ranged_of (range_at f.ranges r) shared.t_ar (sensitivity_at f k) x basic
  unfolding ranged_from
  from-basic x k basic r =
      ap (λ (A : Float). ranged_of (range_at f.ranges r) shared.t_ar A x basic) (lifted.sensitivity f.constants f.settings f.ambient K (get_or f.alpha k nan))

  pub ranged-is : (v : ℕ → Float) (k : ℕ) → lifted_ranged_at shared f.ranges.count lists (v k) k ≡ ranged_at f v k
  unfolding lifted_ranged_at ranged_at common_to_of
  ranged-is v k =
      let g = f.ranges in
      from-basic (v k) k _ _
      ∙ ap (λ (X : Float). ranged_of (range_at g (range_of g.count g.corners (celsius X))) shared.t_ar (sensitivity_at f k) (v k) (celsius X)) (final-is v k)

-- ---- a call from pixels

module _ (c : Call) (p : List ℕ) (o : List ℤ) (t v a : List Float) (m : List ℕ) (corners : List ℤ) (ks fs alpha : List Float) where
  abbrev ir : IrCall
  ir = any_ir c p o t v a m

  abbrev pass : PassCall
  pass = any_pass ir (ranges_of c.ranges corners ks fs) alpha

  abbrev read : Lent
  read = lent p o t v c.k_v_blocks a c.access_blocks

  abbrev works : Table
  works = table alpha corners ks fs

  pub verdict-is : (w : Wanted) (d : List ℕ) → first_of (tests_of w c corners (length alpha) (ir_lengths ir d)) ≡ verdict_of w pass d
  unfolding ir_verdict pass_verdict ranged_verdict
  verdict-is Infrared d = refl
  verdict-is Temperature d = refl
  verdict-is Ranged d = refl

  -- if the call passes, the caller's slices are long enough
  pub record Passed (w : Wanted) (d : List ℕ) : Type 0 where
    pub long : Long (ir_lengths ir d)
    pub in-range : InRange w c.settings.basic_range (length ks)
    pub workable : (x : CommonToData) → WorkableFor (goal_by w x c.ranges) works (c.blocks * side)

  pub opened : (w : Wanted) (d : List ℕ) → (0 < c.ranges) × (c.ranges ≤ length corners) × (c.ranges ≤ length ks) × (c.ranges ≤ length fs)
      → verdict_of w pass d ≡ Ok tt → Passed w d
  unfolding ir_verdict pass_verdict ranged_verdict
  opened Infrared d r e = record { long = infrared-opened _ _ _ _ e; in-range = tt; workable = λ x. tt }
  opened Temperature d r e =
      let q = one-pass-opened _ _ _ _ _ _ e in
      record { long = record { table = omega (arith, q.long.table); pixels = q.long.pixels; destination = q.long.destination; mask = q.long.mask }; in-range = omega (arith, q.within); workable = λ x. omega (arith, q.long.table) }
  opened Ranged d r e =
      let q = ranged-opened _ _ _ _ _ _ _ e in
      record { long = record { table = omega (arith, q.long.table); pixels = q.long.pixels; destination = q.long.destination; mask = q.long.mask }; in-range = omega (arith, q.within); workable = λ x. (omega (arith, q.long.table), r.0, r.1, r.2, r.3) }

  number_is : (d : List ℕ) (k : ℕ) → number_at (Pixels (common ir) (compensation_of c.constants (common ir) c.compensation c.access_cp)) read d k ≡ infrared_at ir k
  unfolding raw_of infrared_at
  number_is d k = lifted.infrared c.constants (common ir) c.compensation c.access_cp _ _ _ _ _

  abbrev goal : Wanted → Goal
  goal w = goal_by w (common_to_of c.constants c.settings (common ir).t_a (get_or ks c.settings.basic_range nan)) c.ranges

  goal-bits : (w : Wanted) (k : ℕ) → bits_by (goal w) works (infrared_at ir k) k ≡ made_bits w pass k
  goal-bits Infrared k = refl
  goal-bits Temperature k = ap (λ (X : Float). answer_bits (answer_of X (infrared_at ir k))) (final-is (onward pass) (infrared_at ir) k)
  goal-bits Ranged k = ap (λ (X : Float). answer_bits (answer_of X (infrared_at ir k))) (ranged-is (onward pass) (infrared_at ir) k)

  pub bits_are : (w : Wanted) (d : List ℕ) (k : ℕ) {x : CommonIrData} {b : Option Float} {g : Goal} → x ≡ common ir → b ≡ compensation_of c.constants x c.compensation c.access_cp
      → g ≡ goal_by w (common_to_of c.constants c.settings x.t_a (get_or ks c.settings.basic_range nan)) c.ranges
      → bits_by g works (number_at (Pixels x b) read d k) k ≡ made_bits w pass k
  bits_are w d k e f h =
      rw (h, f, e) (ap (λ (y : Float). bits_by (goal w) works y k) (number_is d k) ∙ goal-bits w k)
