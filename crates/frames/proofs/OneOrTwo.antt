-- One pass and two calls give the same picture: `one_or_two` proves specs/OneOrTwo. Assumes nothing.
use Prim.Native.Nat.{ℕ, min, ◌*◌, ◌≤◌, zero-le}
use native.Mathlib.Nat.{le_refl}
use mathlib.Core.Path.{◌≡◌, refl, sym, ap, ap₂, ◌∙◌}
use mathlib.Core.Bool.{Bool, true, false, ◌||◌}
use mathlib.Core.List.{List, [], ◌∷◌}
use native.Mathlib.Omega.{arith}
use lib.Dec.{T, leb, ltb}
use lib.ListN.{length}
use lib.Ieee.{Float, binary32, fits, to_bits, of_bits}
use lib.Ieee.Fits.{add-fits}
use lib.Ieee.Bits.{of_bits-to_bits}
use borrow.Author.Tests.{le-leb, lt-ltb, le-ltb, ltb-true, ltb-false}
use Rattle.std.specs.Prelude.{⊤, Result, Ok, Err}
use Rattle.lists.specs.Pick.{pick}
use Rattle.lists.specs.First.{first_from}
use Rattle.lists.proofs.Written.{length-written}
use Rattle.refusal.specs.Refusal.{unless}
use Rattle.refusal.specs.Order.{◌refuses◌, first_of}
use Rattle.refusal.specs.declared.Refusal.{Refusal}
use Rattle.refusal.specs.declared.Refusal.TheVariants.{ShortTable, ShortFrame, BasicRange, SupplyRange, ZeroDivisor}
use Rattle.formulas.specs.Frame.{common_of, ambient_of}
use Rattle.gates.specs.Gate.{supply_outside, zero_divisor, bad_emissivity, length_tests, range_tests, reading_tests, emissivity_tests, temperature_tests}
use Rattle.pixels.specs.Pixels.{touched, infrared_bits, temperature_bits, into, lost_of}
use Rattle.frames.specs.declared.Frame.{Frame}
use Rattle.frames.specs.Frames.{IrCall, PassCall, frame_of, answer_by, common, infrared_at, final_at, onward, ir_verdict, to_verdict, pass_verdict, Writes, Infrareds, Temperatures, Passes}
use Rattle.frames.specs.OneOrTwo.{standing, earlier, second, OneOrTwo}
use Rattle.frames.proofs.Opened.{infrared-opened}
use Rattle.frames.proofs.Both.{both-lost, both-into}

-- ---- the verdicts, by the tests alone

first-stands : (v : Result ⊤ Refusal) → earlier (Err ShortTable) v ≡ Err ShortTable
unfolding first_from
first-stands (Ok _) = refl
first-stands (Err y) = ap (λ (b : Bool). pick b (Err ShortTable) (Err y)) (le-leb 0 (standing y) zero-le)

-- A B P D M R S Z E: whether each test holds (infrared's table, temperature's table, pixel bytes, destination, mask, range, supply, divisor, emissivity);
-- p q d m r: their places
verdicts : (A B P D M R S Z E : Bool) (p q d m r : ℕ)
    → first_of ((A || B) refuses ShortTable ∷ P refuses ShortFrame p ∷ D refuses ShortFrame d ∷ M refuses ShortFrame m ∷ R refuses BasicRange r ∷ S refuses SupplyRange ∷ (Z || E) refuses ZeroDivisor ∷ [])
    ≡ earlier (first_of (A refuses ShortTable ∷ P refuses ShortFrame p ∷ D refuses ShortFrame d ∷ M refuses ShortFrame m ∷ S refuses SupplyRange ∷ (Z || E) refuses ZeroDivisor ∷ []))
    (first_of (B refuses ShortTable ∷ false refuses ShortFrame q ∷ D refuses ShortFrame d ∷ M refuses ShortFrame m ∷ R refuses BasicRange r ∷ E refuses ZeroDivisor ∷ []))
unfolding first_of first_from
verdicts true B P D M R S Z E p q d m r =
    sym (first-stands (first_of (B refuses ShortTable ∷ false refuses ShortFrame q ∷ D refuses ShortFrame d ∷ M refuses ShortFrame m ∷ R refuses BasicRange r ∷ E refuses ZeroDivisor ∷ [])))
verdicts false true true D M R S Z E p q d m r = refl
verdicts false true false true M R S Z E p q d m r = refl
verdicts false true false false true R S Z E p q d m r = refl
verdicts false true false false false R true Z E p q d m r = refl
verdicts false true false false false R false true E p q d m r = refl
verdicts false true false false false R false false true p q d m r = refl
verdicts false true false false false R false false false p q d m r = refl
verdicts false false true true M R S Z E p q d m r = refl
verdicts false false true false true R S Z E p q d m r = refl
verdicts false false true false false true S Z E p q d m r = refl
verdicts false false true false false false S Z true p q d m r = refl
verdicts false false true false false false S Z false p q d m r = refl
verdicts false false false true M R S Z E p q d m r = refl
verdicts false false false false true R S Z E p q d m r = refl
verdicts false false false false false true true Z E p q d m r = refl
verdicts false false false false false true false true E p q d m r = refl
verdicts false false false false false true false false true p q d m r = refl
verdicts false false false false false true false false false p q d m r = refl
verdicts false false false false false false true Z true p q d m r = refl
verdicts false false false false false false true Z false p q d m r = refl
verdicts false false false false false false false true true p q d m r = refl
verdicts false false false false false false false true false p q d m r = refl
verdicts false false false false false false false false true p q d m r = refl
verdicts false false false false false false false false false p q d m r = refl

-- the shorter of two tables is short if one of them is
either : (a b n : ℕ) (s t : Bool) → ltb b n ≡ s → ltb a n ≡ t → ltb (min a b) n ≡ (s || t)
either a b n true t e f = let h = ltb-true b n e in lt-ltb (min a b) n (omega arith)
either a b n false true e f = let h = ltb-true a n f in lt-ltb (min a b) n (omega arith)
either a b n false false e f = let h = ltb-false b n e in let k = ltb-false a n f in le-ltb (min a b) n (omega arith)

same_length : (f : IrCall) {d d₁ : List ℕ} {r : Result Frame Refusal} → Infrareds f d d₁ r → length d₁ ≡ length d
same_length f {d} i = ap length i.destination ∙ kept (ir_verdict f d)
  where
    kept : (v : Result ⊤ Refusal) → length (unless v (into f.size f.mask (infrared_bits (infrared_at f)) d) d) ≡ length d
    kept (Ok _) = length-written (touched f.mask) (infrared_bits (infrared_at f)) f.size d
    kept (Err x) = refl

-- ---- from a result to its verdict, and from a verdict that passes to the result

module _ {n : ℕ} {v : Result ⊤ Refusal} {t_a : Float} {mask : List ℕ} {bits : ℕ → ℕ} {d d' : List ℕ} {r : Result Frame Refusal} (w : Writes n v t_a mask bits d d' r) (e : v ≡ Ok tt) where
  answered : r ≡ Ok (frame_of (to_bits binary32 t_a) (lost_of n mask bits))
  answered = w.answer ∙ ap (λ (x : Result ⊤ Refusal). answer_by x (frame_of (to_bits binary32 t_a) (lost_of n mask bits))) e

  left : d' ≡ into n mask bits d
  left = w.destination ∙ ap (λ (x : Result ⊤ Refusal). unless x (into n mask bits d) d) e

done-passed : (v : Result ⊤ Refusal) {a t : ℕ} {b n : ℕ} → answer_by v (frame_of a b) ≡ Ok (frame_of t n) → (v ≡ Ok tt) × (a ≡ t) × (b ≡ n)
done-passed (Ok _) {a} {t} {b} {n} e = let f : frame_of a b ≡ frame_of t n = cc in (refl, ap (λ (x : Frame). x.t_a) f, ap (λ (x : Frame). x.lost) f)
done-passed (Err x) e = absurd (let z : ◌≡◌ {A = ℕ} 0 1 = cc in let q : ⊥ = omega arith in q)

-- if the second verdict refuses, so does the earlier of the two, and nothing changes
left_by : {A : Type 0} (v : Result ⊤ Refusal) (x : Refusal) (new old : A) → unless (earlier v (Err x)) new old ≡ old
left_by (Ok _) x new old = refl
left_by (Err y) x new old = go (leb (standing y) (standing x))
  where
    go : (b : Bool) → unless (pick b (Err y) (Err x)) new old ≡ old
    go true = refl
    go false = refl

module _ (f : PassCall) (d : List ℕ) where
  by_tests : (t_a : Float) → pass_verdict f d ≡ earlier (ir_verdict f.ir d) (to_verdict (second f t_a) d)
  unfolding pass_verdict ir_verdict to_verdict length_tests range_tests reading_tests emissivity_tests
  by_tests t_a =
      let c = f.ir.constants in
      let n = f.ir.size in
      let A = ltb f.ir.table n in
      let B = ltb (length f.alpha) n in
      let p = length f.ir.pixels in
      let m = length f.ir.mask in
      let P = ltb p (2 * n) in
      let D = ltb (length d) n in
      let M = ltb m n in
      let R = leb f.ranges.count f.ir.settings.basic_range in
      let S = supply_outside c f.ir.ram in
      let Z = zero_divisor c f.ir.ram in
      let E = bad_emissivity f.ir.settings.emissivity in
      ap (λ (b : Bool). first_of (b refuses ShortTable ∷ P refuses ShortFrame p ∷ D refuses ShortFrame (length d) ∷ M refuses ShortFrame m ∷ R refuses BasicRange f.ir.settings.basic_range ∷ S refuses SupplyRange ∷ (Z || E) refuses ZeroDivisor ∷ []))
      (either (length f.alpha) f.ir.table n A B refl refl)
      ∙ verdicts A B P D M R S Z E p (2 * n) (length d) m f.ir.settings.basic_range
      ∙ ap (λ (b : Bool). earlier (ir_verdict f.ir d) (first_of (B refuses ShortTable ∷ b refuses ShortFrame (2 * n) ∷ D refuses ShortFrame (length d) ∷ M refuses ShortFrame m ∷ R refuses BasicRange f.ir.settings.basic_range ∷ E refuses ZeroDivisor ∷ [])))
      (sym (le-ltb (2 * n) (2 * n) (le_refl (2 * n))))

  onwards : (t_a x : Float) {d₁ : List ℕ} {r : Result Frame Refusal} → Infrareds f.ir d d₁ r → to_verdict (second f t_a) d₁ ≡ to_verdict (second f x) d
  unfolding to_verdict
  onwards t_a x i = ap (λ (n : ℕ). first_of (temperature_tests f.ir.settings.emissivity f.ranges.count f.ir.settings.basic_range (record { size = f.ir.size; table = length f.alpha; pixels = 2 * f.ir.size; destination = n; mask = length f.ir.mask }))) (same_length f.ir i)

  written : {d₁ : List ℕ} {r : Result Frame Refusal} → ir_verdict f.ir d ≡ Ok tt → Infrareds f.ir d d₁ r → d₁ ≡ into f.ir.size f.ir.mask (infrared_bits (infrared_at f.ir)) d
  written e i = left i e

  abbrev pass-bits : ℕ → ℕ
  pass-bits = temperature_bits (final_at (onward f) (infrared_at f.ir)) (infrared_at f.ir)

  long : ir_verdict f.ir d ≡ Ok tt → f.ir.size ≤ length d
  unfolding ir_verdict
  long e = (infrared-opened _ _ _ _ e).destination

  stays : {x : Refusal} {d' : List ℕ} {p : Result Frame Refusal} (t_a : Float) → to_verdict (second f t_a) d ≡ Err x → Passes f d d' p → d' ≡ d
  stays {x} t_a e p =
      p.destination ∙ ap (λ (v : Result ⊤ Refusal). unless v (into f.ir.size f.ir.mask pass-bits d) d) (by_tests t_a ∙ ap (earlier (ir_verdict f.ir d)) e)
      ∙ left_by (ir_verdict f.ir d) x (into f.ir.size f.ir.mask pass-bits d) d

  ambient-fits : T (fits binary32 (common f.ir).t_a)
  unfolding common common_of ambient_of
  ambient-fits = add-fits binary32 _ _

  agree : {d₁ d₂ d' : List ℕ} {r q p : Result Frame Refusal} {t_a lost t n : ℕ} → Infrareds f.ir d d₁ r → r ≡ Ok (frame_of t_a lost)
      → Temperatures (second f (of_bits binary32 t_a)) d₁ d₂ q → q ≡ Ok (frame_of t n) → Passes f d d' p → (p ≡ q) × (d' ≡ d₂)
  agree {t_a = t_a} {lost = lost} {t = u} {n = n} i e t h p =
      let x = of_bits binary32 t_a in
      let a = done-passed (ir_verdict f.ir d) (sym i.answer ∙ e) in
      let b = done-passed (to_verdict (second f x) _) (sym t.answer ∙ h) in
      let same : x ≡ (common f.ir).t_a = ap (of_bits binary32) (sym a.1) ∙ of_bits-to_bits binary32 _ ambient-fits in
      let passes : pass_verdict f d ≡ Ok tt = by_tests x ∙ ap₂ earlier a.0 (sym (onwards x x i) ∙ b.0) in
      let w = written a.0 i in
      let l = long a.0 in (
        answered p passes ∙ ap₂ (λ (a c : ℕ). Ok (frame_of a c)) (sym (ap (to_bits binary32) same) ∙ b.1) (sym (both-lost f d l same w) ∙ b.2) ∙ sym h,
        left p passes ∙ sym (both-into f d l same w) ∙ sym (left t b.0),
      )

  pub one_or_two : OneOrTwo f d
  one_or_two = record { same = agree; refused = by_tests; onward = onwards; half_done = written; nothing = stays }
