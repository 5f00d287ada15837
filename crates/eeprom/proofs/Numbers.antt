-- Proves specs/Numbers. A field divided by a power of two is finite; alpha and K are products, sums and quotients of finite numbers with divisors other
-- than zero; the range coefficients follow from Growth. Assumes nothing.
use Prim.Native.Nat.{ℕ, zero, suc, ◌-◌, ◌*◌, ◌/◌, ◌^◌, ◌<◌, ◌≤◌}
use mathlib.Core.Path.{◌≡◌, refl, sym, subst}
use mathlib.Core.Bool.{Bool, true, false}
use mathlib.Core.List.{List, [], ◌∷◌}
use native.Mathlib.Omega.{arith}
use lib.Dec.{ltb}
use lib.Bits.{or_lt}
use lib.IntN.{ℤ, pos, negsuc}
use lib.ListN.{length}
use lib.Pow.{pow_mono}
use lib.Signed.{mag}
use lib.Ieee.{Float, nan, is_nan, of_bits}
use borrow.Author.Tests.{ltb-true, ltb-false}
use Rattle.std.specs.Prelude.{⊤, Option, Some, None, Result, Ok, Err, IfOk, OnOk}
use Rattle.lists.specs.Written.{filled}
use Rattle.lists.proofs.Written.{written_at}
use Rattle.refusal.specs.declared.Refusal.{Refusal}
use Rattle.refusal.specs.declared.Refusal.TheVariants.{ShortImage, ShortTable, DamagedWord, LargeScale, BasicRange, ZeroFactor}
use Rattle.refusal.specs.Refusal.{unless}
use Rattle.refusal.specs.Order.{Test, ◌refuses◌, first_of}
use Rattle.refusal.proofs.Order.{passed}
use Rattle.floats.specs.Floats.{◌⊕◌, ◌⊗◌, ◌⊘◌, real, power_of_two, over, is_zero}
use Rattle.floats.specs.Constants.{plus_zero, alpha_full}
use Rattle.floats.proofs.Power.{power_below, power-value}
use Rattle.floats.proofs.Bound as bound
use Rattle.floats.proofs.Bound.{Within, within-number, within_of, quotient-within, product-number, sum-is-number, quotient-number}
use Rattle.floats.proofs.Ratio.{large, ratio-within, real-within, over-ratio}
use Rattle.util.specs.Words.{word_at}
use Rattle.util.specs.Fields.{signed, combined}
use Rattle.util.proofs.Width.{stands}
use Rattle.hamming.specs.Word.{data_values}
use Rattle.map.specs.declared.Field.{Field}
use Rattle.map.specs.declared.Field.TheVariants.{Gain, VPtat25, AlphaPtat, AlphaCp, AlphaCpScale, RowMaximum, Alpha, KPixel}
use Rattle.map.specs.Map.{word_of, frame_pixels}
use Rattle.card.specs.Card.{data_at, first_damaged}
use Rattle.offsets.specs.Offsets.{offset_scale}
use Rattle.card.proofs.Data.{data-lt}
use Rattle.ranges.specs.Coefficients as shared
use Rattle.calibration.specs.Calibration.{single, double, k_s_to, ranges_of, calibration_of, no_calibration}
use Rattle.calibration.specs.Coefficients.{range_count, growth, coefficient_at, zero_factor}
use Rattle.tables.specs.declared.K.{K}
use Rattle.tables.specs.declared.K.TheVariants.{KTa, KV}
use Rattle.tables.specs.Tables.{row_pixels, row_scale, reference, alpha_at, average_field, scale_field, average, scale1, scale2, raw_of, k_at}
use Rattle.eeprom.specs.declared.Loaded.{Loaded}
use Rattle.eeprom.specs.Load.{Tables, shortest, filled_tables, data_tests, load_tests, load_verdict, giving, loaded, Loads}
use Rattle.eeprom.specs.Numbers.{Number, NumbersBelow, NumberRecord, NumberTables, AllNumbers, ZeroFactorFrom5}
use Rattle.eeprom.proofs.Opened.{opened, each}
use Rattle.eeprom.proofs.Growth.{coefficient-number, none_passes, no-zero-factor}

-- ---- fields

-- a whole number below 2 ^ 24 divided by a power of two is not NaN
over-number : (z : ℤ) (e : ℕ) → large z < 2 ^ 24 → Number (over z e)
over-number z e h = within-number (over z e) (large z) (ratio-within (over-ratio z e (large z) (omega arith) h))

-- a signed field of at most 16 bits is below 2 ^ 24 in magnitude
signed-small : (k n : ℕ) → 1 ≤ k → k ≤ 16 → large (signed k n) < 2 ^ 24
signed-small k n p q = by (signed k n) ((stands k p).range n)
  where
    by : (z : ℤ) → mag z < 2 ^ (k - 1) → large z < 2 ^ 24
    by (pos m) h = let l : 2 ^ (k - 1) ≤ 2 ^ 15 = pow_mono {i = k - 1} {j = 15} (omega arith) in omega arith
    by (negsuc m) h = let l : 2 ^ (k - 1) ≤ 2 ^ 15 = pow_mono {i = k - 1} {j = 15} (omega arith) in omega arith

field-number : (k n e : ℕ) → 1 ≤ k → k ≤ 16 → Number (over (signed k n) e)
field-number k n e p q = over-number (signed k n) e (signed-small k n p q)

whole-number : (n : ℕ) → n < 2 ^ 24 → Number (real (pos n))
whole-number n h = within-number (real (pos n)) n (real-within (pos n) h)

-- two combined words are below 2 ^ 24
both_small : (u l : ℕ) → u < data_values → l < data_values → combined u l < 2 ^ 24
both_small u l h k = let b : combined u l < 2 ^ 16 = or_lt 16 (u * 32) l (omega arith) (omega arith) in omega arith

-- a list of eight values f 0 to f 7 has no NaN if none of the values is
eight : (f : ℕ → Float) → ((k : ℕ) → k < 8 → Number (f k)) → NumbersBelow 8 (f 0 ∷ f 1 ∷ f 2 ∷ f 3 ∷ f 4 ∷ f 5 ∷ f 6 ∷ f 7 ∷ [])
eight f h zero l = h 0 l
eight f h (suc zero) l = h 1 l
eight f h (suc (suc zero)) l = h 2 l
eight f h (suc (suc (suc zero))) l = h 3 l
eight f h (suc (suc (suc (suc zero)))) l = h 4 l
eight f h (suc (suc (suc (suc (suc zero))))) l = h 5 l
eight f h (suc (suc (suc (suc (suc (suc zero)))))) l = h 6 l
eight f h (suc (suc (suc (suc (suc (suc (suc zero))))))) l = h 7 l
eight f h (suc (suc (suc (suc (suc (suc (suc (suc k)))))))) l = absurd (let q : ⊥ = omega arith in q)

-- ---- the record

inner : (x y : Float) → ◌≡◌ {A = Option Float} (Some x) (Some y) → x ≡ y
inner x y e = cc

zero_number : Number plus_zero
unfolding of_bits is_nan
zero_number = refl

none-given : (x : Float) → ◌≡◌ {A = Option Float} None (Some x) → ⊥
none-given x e = let z : ◌≡◌ {A = ℕ} 0 1 = cc in omega arith

refused-record : NumberRecord no_calibration
unfolding no_calibration
refused-record = record {
  k_s_ta = zero_number;
  emissivity = zero_number;
  gain = zero_number;
  v_ptat_25 = zero_number;
  k_t_ptat = zero_number;
  k_v_ptat = zero_number;
  alpha_ptat = zero_number;
  alpha_cp = zero_number;
  k_ta_cp = zero_number;
  k_v_cp = zero_number;
  gradient = λ x e. absurd (none-given x e);
  k_s_to = eight (λ _. plus_zero) (λ _ _. zero_number);
  range_coefficients = eight (λ _. plus_zero) (λ _ _. zero_number);
}

module _ (w : ℕ → ℕ) (small : (k : ℕ) → w k < data_values) where
  at_most : (f : Field) (k : ℕ) → w (word_of f k) < 2 ^ 24
  at_most f k = let s = small (word_of f k) in omega arith

  pair : (f : Field) → Number (real (pos (double w f)))
  pair f = whole-number (double w f) (both_small (w (word_of f 0)) (w (word_of f 1)) (small (word_of f 0)) (small (word_of f 1)))

  loaded-record : (b : ℕ) → b ≤ 7 → ((r : ℕ) → r < b → is_zero (growth (ranges_of w) r) ≡ false) → NumberRecord (calibration_of w b)
  unfolding calibration_of ranges_of
  loaded-record b h f = record {
    k_s_ta = field-number 11 _ 15 (omega arith) (omega arith);
    emissivity = field-number 11 _ 9 (omega arith) (omega arith);
    gain = pair Gain;
    v_ptat_25 = pair VPtat25;
    k_t_ptat = field-number 11 _ 3 (omega arith) (omega arith);
    k_v_ptat = field-number 11 _ 12 (omega arith) (omega arith);
    alpha_ptat = over-number (pos (single w AlphaPtat)) 7 (at_most AlphaPtat 0);
    alpha_cp = over-number (pos (single w AlphaCp)) (single w AlphaCpScale) (at_most AlphaCp 0);
    k_ta_cp = field-number 6 _ _ (omega arith) (omega arith);
    k_v_cp = field-number 6 _ _ (omega arith) (omega arith);
    gradient = λ x e. subst Number (inner _ x e) (field-number 9 _ 6 (omega arith) (omega arith));
    k_s_to = eight (k_s_to w) (λ k _. field-number 11 _ _ (omega arith) (omega arith));
    range_coefficients = eight (coefficient_at (ranges_of w) b) (λ r l. coefficient-number w small b r h (omega arith) f);
  }

  -- ---- the tables

  -- a power of two below 2 ^ 128 is finite
  power-within : (e : ℕ) → e < 128 → Within (power_of_two e) (2 ^ e)
  power-within e h = within_of (power_of_two e) false (2 ^ e) 1 (2 ^ e) (omega arith) (power-value e h) (omega arith)

  power-some : (e : ℕ) → e < 128 → bound.Some (power_of_two e)
  power-some e h = subst bound.Some (sym (power_below e h)) (omega arith)

  alpha-number : (i : ℕ) → Number (alpha_at w i)
  unfolding alpha_at reference of_bits
  alpha-number i =
      let m = w (word_of RowMaximum (i / row_pixels)) in
      product-number (real (pos (w (word_of Alpha i))) ⊘ alpha_full) (reference w (i / row_pixels)) (w (word_of Alpha i)) m
      (quotient-within (real (pos (w (word_of Alpha i)))) false 2047 (pos 0) (w (word_of Alpha i)) (at_most Alpha i) (omega arith) (omega arith) (real-within (pos (w (word_of Alpha i))) (at_most Alpha i)))
      (ratio-within (over-ratio (pos m) (row_scale w (i / row_pixels)) m (omega arith) (at_most RowMaximum (i / row_pixels))))

  raw-small : (k : K) (n : ℕ) → large (raw_of k n) < 2 ^ 24
  raw-small KTa n = signed-small 6 (n / 2 ^ 5) (omega arith) (omega arith)
  raw-small KV n = signed-small 5 n (omega arith) (omega arith)

  k-number : (k : K) (i : ℕ) → Number (k_at w k i)
  unfolding k_at
  k-number k i =
      let raw = raw_of k (w (word_of KPixel i)) in
      let s = small (word_of (scale_field k) 0) in
      let one_of : scale1 w k < 128 = omega arith in
      let two-of : scale2 w k < 128 = omega arith in
      let own = signed 11 (w (word_of (average_field k) 0)) in
      quotient-number (real raw ⊗ power_of_two (scale2 w k) ⊕ average w k) (power_of_two (scale1 w k)) (2 ^ scale1 w k)
      (sum-is-number (real raw ⊗ power_of_two (scale2 w k)) (average w k) (large own)
      (product-number (real raw) (power_of_two (scale2 w k)) (large raw) (2 ^ scale2 w k) (real-within raw (raw-small k (w (word_of KPixel i)))) (power-within (scale2 w k) two-of))
      (real-within own (signed-small 11 (w (word_of (average_field k) 0)) (omega arith) (omega arith))))
      (power-within (scale1 w k) one_of)
      (power-some (scale1 w k) one_of)

  entries : (f : ℕ → Float) (t : List Float) → frame_pixels ≤ length t → ((k : ℕ) → Number (f k)) → NumbersBelow frame_pixels (filled f frame_pixels t)
  entries f t h n k l = subst Number (sym (written_at _ f frame_pixels t k nan h l)) (n k)

  loaded-tables : (t : Tables) → frame_pixels ≤ shortest t → NumberTables (filled_tables w t)
  unfolding filled_tables
  loaded-tables t h =
      let l = each (length t.offsets0) (length t.offsets1) (length t.alpha) (length t.k_v) (length t.k_ta) h in record {
        alpha = entries (alpha_at w) t.alpha l.2 alpha-number;
        k_v = entries (k_at w KV) t.k_v l.3 (k-number KV);
        k_ta = entries (k_at w KTa) t.k_ta l.4 (k-number KTa);
      }

-- ---- a load

-- if a load passes, no divisor of a coefficient is zero
no-zeros : (image : List ℕ) (range : ℕ) (t : Tables) → load_verdict image range t ≡ Ok tt → range_count ≤ zero_factor (ranges_of (data_at image)) range
unfolding load_tests data_tests
no-zeros image range t e =
    let p = passed _ _ _ e in
    let q = passed _ _ _ p.1 in
    let r = passed _ _ _ q.1 in
    let s = passed _ _ _ r.1 in
    let b = passed _ _ _ s.1 in
    ltb-false _ _ (passed _ _ _ b.1).0

module _ (image : List ℕ) (range : ℕ) (before : Tables) where
  passed-record : load_verdict image range before ≡ Ok tt → NumberRecord (calibration_of (data_at image) range)
  unfolding shared.zero_factor
  passed-record e =
      let o = opened image range before e in
      let i = o.inside in
      loaded-record (data_at image) (data-lt image) range (omega arith)
      (none_passes (λ (r : ℕ). is_zero (growth (ranges_of (data_at image)) r)) range_count range (omega arith) (no-zeros image range before e))

  record-by : (v : Result ⊤ Refusal) → load_verdict image range before ≡ v → IfOk (giving v (loaded image range)) (λ (l : Loaded). NumberRecord l.calibration)
  record-by (Ok _) e = passed-record e
  record-by (Err refusal) e = tt

  tables-by : (v : Result ⊤ Refusal) → load_verdict image range before ≡ v → (after : Tables) → after ≡ unless v (filled_tables (data_at image) before) before
      → OnOk (giving v (loaded image range)) (NumberTables after)
  tables-by (Ok _) e after f = subst NumberTables (sym f) (loaded-tables (data_at image) (data-lt image) before (opened image range before e).long)
  tables-by (Err refusal) e after f = tt

  pub all-numbers : (after : Tables) (r : Result Loaded Refusal) → Loads image range before after r → AllNumbers after r
  all-numbers after r l = record {
    calibration = subst (λ (q : Result Loaded Refusal). IfOk q (λ (l : Loaded). NumberRecord l.calibration)) (sym l.result) (record-by _ refl);
    refused = refused-record;
    lent = subst (λ (q : Result Loaded Refusal). OnOk q (NumberTables after)) (sym l.result) (tables-by _ refl after l.lent);
  }

-- ---- refusal 13

later : (holds : Bool) (x y : Refusal) (rest : List Test) → (x ≡ y → ⊥) → first_of (holds refuses x ∷ rest) ≡ Err y → first_of rest ≡ Err y
unfolding first_of
later true x y rest ne e = absurd (ne (same x y e))
  where
    same : (x y : Refusal) → ◌≡◌ {A = Result ⊤ Refusal} (Err x) (Err y) → x ≡ y
    same x y e = cc
later false x y rest ne e = e

last : (k : ℕ) (y : Refusal) → k ≡ range_count → first_of (ltb k range_count refuses ZeroFactor k ∷ []) ≡ Err y → ⊥
unfolding first_of
last k y h e =
    let g : ◌≡◌ {A = Result ⊤ Refusal} (Ok tt) (Err y) = rw h at e in
    let z : ◌≡◌ {A = ℕ} 0 1 = cc in
    omega arith

-- refusal 13 does not occur with a basic range of 4 or less: the tests before it give other refusals
never : (image : List ℕ) (range : ℕ) (t : Tables) (r : ℕ) → range ≤ 4 → load_verdict image range t ≡ Err (ZeroFactor r) → ⊥
unfolding load_tests data_tests
never image range t r h e =
    let y = ZeroFactor r in
    let w = data_at image in
    let at = first_damaged image in
    let a = later _ (ShortImage (length image)) y _ (λ q. let z : ◌≡◌ {A = ℕ} 0 1 = cc in omega arith) e in
    let b = later _ ShortTable y _ (λ q. let z : ◌≡◌ {A = ℕ} 0 1 = cc in omega arith) a in
    let c = later _ (DamagedWord at (word_at image at)) y _ (λ q. let z : ◌≡◌ {A = ℕ} 0 1 = cc in omega arith) b in
    let d = later _ (LargeScale (offset_scale w)) y _ (λ q. let z : ◌≡◌ {A = ℕ} 0 1 = cc in omega arith) c in
    let f = later _ (BasicRange range) y _ (λ q. let z : ◌≡◌ {A = ℕ} 0 1 = cc in omega arith) d in
    last (zero_factor (ranges_of w) range) y (no-zero-factor w range h) f

from-5 : (image : List ℕ) (range : ℕ) (t : Tables) (r : ℕ) (b : Bool) → ltb range 5 ≡ b → load_verdict image range t ≡ Err (ZeroFactor r) → 5 ≤ range
from-5 image range t r true k e = let l = ltb-true range 5 k in absurd (never image range t r (omega arith) e)
from-5 image range t r false k e = ltb-false range 5 k

pub zero-factor-from-5 : ZeroFactorFrom5
zero-factor-from-5 image range t r e = from-5 image range t r (ltb range 5) refl e
