-- The value of bits is their magnitude in units of 2 ^ -149; and `root` by the bits of its argument. Assumes nothing.
use Rattle.std.proofs.Common.{◌≡◌, ℕ, zero, suc, ◌+◌, ◌*◌, ◌/◌, ◌%◌, ◌^◌, ◌<◌, ◌≤◌, Bool, true, false, cond, not, T, eqb, leb, pos, sym, refl, ap, ◌∙◌, subst, true≢false, lt_of_lt_of_le, lt_of_le_of_lt, lt_irrefl, mul-pos, zero-mul, mul-one, arith, ne_eqb, le-leb}
use native.Mathlib.Decide.{dec_le}
use lib.Ieee.{Float, nan, inf, fin, binary32, of_bits, to_bits, of_fields, odd, up}
use lib.Ieee.Exact.{HasValue, odd_sign}
use lib.Ieee.Fits.{down_pos}
use lib.Ieee.Positive.{positive, positive_of_value}
use lib.Ieee.Bits.{to_bits-of_bits, nan_bits_is}
use borrow.Author.Tests.{lt-leb}
use Rattle.floats.proofs.Nan.{number-below}
use Rattle.root.specs.Root.{field, magnitude, root_pattern, square_root, root}
use Rattle.root.proofs.Magnitude.{mag_is, mag-step}
use Rattle.root.proofs.Unique.{mag-mono}
use Rattle.root.proofs.Exists.{root-nearest}

by-fields : (b : ℕ) → of_bits binary32 b ≡ of_fields binary32 (leb 0x80000000 b) (b % 0x80000000 / 0x800000) (b % 0x800000)
unfolding of_bits
by-fields b = refl

fields_value : (s : Bool) (x t : ℕ) → x < 255 → HasValue (of_fields binary32 s x t) s (field x t) (2 ^ 149)
unfolding of_fields field
fields_value s zero t h = subst (λ (a : ℕ). HasValue (odd 24 s t 0 149) s a (2 ^ 149)) (mul-one t) (odd_sign 24 s t 0 149)
fields_value s (suc x) t h =
    subst (λ (u : Bool). HasValue (cond u (cond (eqb t 0) (inf s) nan) (odd 24 s (0x800000 + t) x 149)) s ((0x800000 + t) * 2 ^ x) (2 ^ 149)) (sym (ne_eqb (suc x) 255 (λ e. no x e h)))
    (odd_sign 24 s (0x800000 + t) x 149)
  where
    no : (x : ℕ) → suc x ≡ 255 → suc x < 255 → ⊥
    no x e h = omega arith

pub bits-value : (b : ℕ) → b % 0x80000000 < 0x7F800000 → HasValue (of_bits binary32 b) (leb 0x80000000 b) (magnitude (b % 0x80000000)) (2 ^ 149)
bits-value b h =
    let e : b % 0x80000000 % 0x800000 ≡ b % 0x800000 = omega arith in
    subst (λ (v : Float). HasValue v (leb 0x80000000 b) (magnitude (b % 0x80000000)) (2 ^ 149)) (sym (by-fields b))
    (subst (λ (a : ℕ). HasValue (of_fields binary32 (leb 0x80000000 b) (b % 0x80000000 / 0x800000) (b % 0x800000)) (leb 0x80000000 b) a (2 ^ 149))
    (sym (mag_is (b % 0x80000000) ∙ ap (field (b % 0x80000000 / 0x800000)) e))
    (fields_value (leb 0x80000000 b) (b % 0x80000000 / 0x800000) (b % 0x800000) (omega arith)))

-- the value of the bits of a positive finite number
pub value_of : (b : ℕ) → b < 0x7F800000 → HasValue (of_bits binary32 b) false (magnitude b) (2 ^ 149)
value_of b h =
    let e : b % 0x80000000 ≡ b = omega arith in
    subst (λ (s : Bool). HasValue (of_bits binary32 b) s (magnitude b) (2 ^ 149)) (lt-leb 0x80000000 b (omega arith))
    (subst (λ (x : ℕ). HasValue (of_bits binary32 b) (leb 0x80000000 b) (magnitude x) (2 ^ 149)) e (bits-value b (omega arith)))

pub mag-pos : (p : ℕ) → 0 < p → 0 < magnitude p
mag-pos p h = lt_of_lt_of_le (lt_of_le_of_lt (omega arith) (mag-step 0)) (mag-mono {p = 0 + 1} {r = p} (omega arith))

-- ---- `root`, by the bits

pub positive-root : (v : Float) → T (positive v) → root v ≡ square_root (square_root v)
unfolding root
positive-root nan p = absurd p
positive-root (inf s) p = absurd p
positive-root (fin true m e) p = absurd p
positive-root (fin false zero e) p = absurd p
positive-root (fin false (suc m) e) p = refl

pub negative-root : (v : Float) (a c : ℕ) → 0 < a → HasValue v true a c → root v ≡ nan
unfolding root
negative-root nan a c p h = absurd h
negative-root (inf s) a c p h = absurd h
negative-root (fin false m e) a c p h = absurd (true≢false (sym h.0))
negative-root (fin true (suc m) e) a c p h = refl
negative-root (fin true zero e) a c p h =
    absurd (lt_irrefl 0 (subst (λ (z : ℕ). 0 < z) (sym h.1 ∙ ap (λ (z : ℕ). z * c) (zero-mul (up e)) ∙ zero-mul c) (mul-pos p (down_pos e))))

pub bits_back : (b : ℕ) → b < 0x7F800001 → to_bits binary32 (of_bits binary32 b) ≡ b
bits_back b h = to_bits-of_bits binary32 b (omega arith) (subst (λ (t : Bool). T (not t)) (nan_bits_is binary32 b) (number-below b (omega arith)))

pub square-root-bits : (b : ℕ) → b < 0x7F800000 → square_root (of_bits binary32 b) ≡ of_bits binary32 (root_pattern b)
unfolding square_root
square-root-bits b h = ap (λ (x : ℕ). of_bits binary32 (root_pattern x)) (bits_back b (omega arith))

pub root-positive : (b : ℕ) → 0 < b → b < 0x7F800000 → root (of_bits binary32 b) ≡ of_bits binary32 (root_pattern (root_pattern b))
root-positive b p h =
    positive-root (of_bits binary32 b) (positive_of_value (of_bits binary32 b) (magnitude b) (2 ^ 149) (value_of b h) (mag-pos b p))
    ∙ ap square_root (square-root-bits b h)
    ∙ square-root-bits (root_pattern b) (root-nearest b p h).finite

pub root-negative : (b : ℕ) → 0x80000000 ≤ b → 0 < b % 0x80000000 → b % 0x80000000 < 0x7F800000 → root (of_bits binary32 b) ≡ nan
root-negative b s p h =
    negative-root (of_bits binary32 b) (magnitude (b % 0x80000000)) (2 ^ 149) (mag-pos (b % 0x80000000) p)
    (subst (λ (s : Bool). HasValue (of_bits binary32 b) s (magnitude (b % 0x80000000)) (2 ^ 149)) (le-leb 0x80000000 b s) (bits-value b h))

root-at : (b c : ℕ) → b ≡ c → root (of_bits binary32 b) ≡ root (of_bits binary32 c)
root-at b c e = ap (λ (x : ℕ). root (of_bits binary32 x)) e

pub root-nan : (x : Float) → x ≡ nan → root x ≡ nan
unfolding root
root-nan x e = ap root e

pub zero_bits : of_bits binary32 0 ≡ fin false 0 (pos 0)
unfolding of_bits
zero_bits = refl

pub root-zero : (b : ℕ) → b < 0x100000000 → b % 0x80000000 ≡ 0 → root (of_bits binary32 b) ≡ fin false 0 (pos 0)
unfolding root of_bits
root-zero b h e = elim (dec_le 0x80000000 b) [
  | yes g ↦ root-at b 0x80000000 (omega arith)
  | no g ↦ root-at b 0 (omega arith)
]

pub root-inf : (b : ℕ) → b < 0x100000000 → b % 0x80000000 ≡ 0x7F800000 → root (of_bits binary32 b) ≡ inf false
unfolding root of_bits
root-inf b h e = elim (dec_le 0x80000000 b) [
  | yes g ↦ root-at b 0xFF800000 (omega arith)
  | no g ↦ root-at b 0x7F800000 (omega arith)
]
