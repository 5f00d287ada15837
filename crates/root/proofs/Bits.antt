-- A non-negative float that fits binary32, by its bits: its value is their magnitude, and a larger value has larger bits. Assumes nothing.
use Rattle.std.proofs.Common.{◌≡◌, ℕ, ◌+◌, ◌*◌, ◌%◌, ◌^◌, ◌<◌, ◌≤◌, Bool, true, false, ◌||◌, T, leb, sym, refl, ap, ◌∙◌, subst, true≢false, le_of_eq, lt_of_lt_of_le, le_antisymm, lt_of_not-le, not-le_of_lt, arith, ltb→lt, le-leb}
use native.Mathlib.Decide.{dec_le}
use lib.Ieee.{Float, nan, inf, fin, binary32, fits, of_bits, to_bits, up, down, lt, le, eq}
use lib.Ieee.Exact.{HasValue}
use lib.Ieee.Bits.{of_bits-to_bits, to_bits-lt}
use lib.Ieee.Positive.{num, den, positive, le→cross}
use lib.Ieee.Order.{le_of_values}
use Rattle.floats.proofs.Nan.{nan-above}
use Rattle.root.specs.Root.{field, magnitude}
use Rattle.root.proofs.Fractions.{same_sign, same_number}
use Rattle.root.proofs.Magnitude.{mag-step}
use Rattle.root.proofs.Unique.{mag-mono}
use Rattle.root.proofs.Values.{bits-value, value_of}

-- ---- magnitudes

pub mag-strict : {p r : ℕ} → p < r → magnitude p < magnitude r
mag-strict {p} {r} h = lt_of_lt_of_le (mag-step p) (mag-mono {p = p + 1} {r = r} (omega arith))

pub mag-lt-back : (p r : ℕ) → magnitude p < magnitude r → p < r
mag-lt-back p r h = lt_of_not-le (λ g. not-le_of_lt h (mag-mono g))

pub mag-le-back : (p r : ℕ) → magnitude p ≤ magnitude r → p ≤ r
mag-le-back p r h = elim (dec_le p r) [ yes g ↦ g | no f ↦ absurd (not-le_of_lt (mag-strict (lt_of_not-le f)) h) ]

pub mag_same : (p r : ℕ) → magnitude p ≡ magnitude r → p ≡ r
mag_same p r e = le_antisymm (mag-le-back p r (le_of_eq e)) (mag-le-back r p (le_of_eq (sym e)))

mag-zero : magnitude 0 ≡ 0
unfolding magnitude field
mag-zero = refl

-- ---- the bits

infinite : (b : ℕ) → b < 0x100000000 → b % 0x80000000 ≡ 0x7F800000 → (s : Bool) (a c : ℕ) → HasValue (of_bits binary32 b) s a c → ⊥
unfolding of_bits
infinite b h e s a c v = elim (dec_le 0x80000000 b) [
  | yes g ↦ let z : b ≡ 0xFF800000 = omega arith in subst (λ (x : ℕ). HasValue (of_bits binary32 x) s a c) z v
  | no g ↦ let z : b ≡ 0x7F800000 = omega arith in subst (λ (x : ℕ). HasValue (of_bits binary32 x) s a c) z v
]

below : (b : ℕ) → b < 0x100000000 → (s : Bool) (a c : ℕ) → HasValue (of_bits binary32 b) s a c → b % 0x80000000 < 0x7F800000
below b h s a c v = lt_of_not-le (λ g. elim (dec_le (b % 0x80000000) 0x7F800000) [
  | yes l ↦ infinite b h (omega arith) s a c v
  | no l ↦ subst (λ (x : Float). HasValue x s a c) (nan-above b (lt_of_not-le l)) v
])

unsigned : (b : ℕ) → leb 0x80000000 b ≡ false → b < 0x80000000
unsigned b e = lt_of_not-le (λ g. true≢false (sym (le-leb 0x80000000 b g) ∙ e))

module _ (x : Float) (a c : ℕ) (held : T (fits binary32 x)) (value : HasValue x false a c) where
  by_bits : HasValue (of_bits binary32 (to_bits binary32 x)) false a c
  by_bits = subst (λ (v : Float). HasValue v false a c) (sym (of_bits-to_bits binary32 x held)) value

  -- a finite non-negative number has bits below infinity's
  pub bits-finite : to_bits binary32 x < 0x7F800000
  bits-finite =
      let b : ℕ = to_bits binary32 x in
      let l : b % 0x80000000 < 0x7F800000 = below b (to_bits-lt binary32 x held) false a c by_bits in
      let u : b < 0x80000000 = unsigned b (same_sign (of_bits binary32 b) (leb 0x80000000 b) false (magnitude (b % 0x80000000)) (2 ^ 149) a c (bits-value b l) by_bits) in
      omega arith

  -- and their magnitude is its value
  pub bits-number : HasValue x false (magnitude (to_bits binary32 x)) (2 ^ 149)
  bits-number =
      subst (λ (v : Float). HasValue v false (magnitude (to_bits binary32 x)) (2 ^ 149)) (of_bits-to_bits binary32 x held) (value_of (to_bits binary32 x) bits-finite)

-- its magnitude in units of 2 ^ -149
pub magnitude-is : (x : Float) (a : ℕ) → T (fits binary32 x) → HasValue x false a (2 ^ 149) → magnitude (to_bits binary32 x) ≡ a
magnitude-is x a held v = same_number x false false (magnitude (to_bits binary32 x)) a (2 ^ 149) (bits-number x a (2 ^ 149) held v) v

pub bits-some : (b : ℕ) → 0 < magnitude b → 0 < b
bits-some b h = mag-lt-back 0 b (subst (λ (z : ℕ). z < magnitude b) (sym mag-zero) h)

-- two floats with the same value are equal
pub same_float : (x y : Float) (a : ℕ) → T (fits binary32 x) → T (fits binary32 y) → HasValue x false a (2 ^ 149) → HasValue y false a (2 ^ 149) → x ≡ y
same_float x y a hx hy vx vy =
    sym (of_bits-to_bits binary32 x hx)
    ∙ ap (of_bits binary32) (mag_same (to_bits binary32 x) (to_bits binary32 y) (magnitude-is x a hx vx ∙ sym (magnitude-is y a hy vy)))
    ∙ of_bits-to_bits binary32 y hy

-- ---- order

pub lt→le : (x y : Float) → T (lt x y) → T (le x y)
unfolding le
lt→le x y h = left (lt x y) (eq x y) h
  where
    left : (a b : Bool) → T a → T (a || b)
    left true b t = tt
    left false b t = absurd t

lt→cross : (x y : Float) → T (positive x) → T (positive y) → T (lt x y) → num x * den y < num y * den x
unfolding lt
lt→cross nan y p q h = absurd p
lt→cross (inf s) y p q h = absurd p
lt→cross (fin true m e) y p q h = absurd p
lt→cross (fin false m e) nan p q h = absurd q
lt→cross (fin false m e) (inf t) p q h = absurd q
lt→cross (fin false m e) (fin true n d) p q h = absurd q
lt→cross (fin false m e) (fin false n d) p q h = ltb→lt (m * up e * down d) (n * up d * down e) h

pub values-of-lt : (x y : Float) (a c b d : ℕ) → T (positive x) → T (positive y) → 0 < c → 0 < d → HasValue x false a c → HasValue y false b d → T (lt x y) → a * d < b * c
values-of-lt x y a c b d p q C D h k l =
    lt_of_not-le (λ g. not-le_of_lt (lt→cross x y p q l) (le→cross y x q p (le_of_values y x b d a c D C k h g)))
