-- NaN: which values and which bit patterns are NaN, and the NaN that the code makes. Assumes nothing.
use Prim.Native.Nat.{ℕ, ◌%◌, ◌<◌, ◌≤◌}
use mathlib.Core.Path.{◌≡◌, refl, sym, ap, ◌∙◌, subst}
use mathlib.Core.Bool.{Bool, true, false, not, true≢false}
use lib.Dec.{T, eqb}
use lib.Ieee.{Float, nan, inf, fin, binary32, fits, div, ne, is_nan, nan_bits, of_bits, to_bits}
use lib.Ieee.Bits.{nan_bits_is, nan_bits_above, is_false, of_bits-to_bits}
use lib.Ieee.Compare.{differs_from_itself}
use borrow.Author.Tests.{lt-ltb, le-ltb, eq-eqb, ne_eqb}
use Rattle.floats.specs.Constants.{pattern}

pub is-nan : (x : Float) → is_nan x ≡ true → x ≡ nan
unfolding is_nan
is-nan nan e = refl
is-nan (inf s) e = absurd (subst T (sym e) tt)
is-nan (fin s m e') e = absurd (subst T (sym e) tt)

-- a value that equals itself is not NaN
pub same-no-nan : (x : Float) → ne x x ≡ false → T (not (is_nan x))
unfolding ne is_nan
same-no-nan nan e = subst T e tt
same-no-nan (inf s) e = tt
same-no-nan (fin s m e') e = tt

-- a value that differs from itself, which is the code's test, is NaN
pub differs : (x : Float) → ne x x ≡ true → is_nan x ≡ true
unfolding is_nan
differs x e = ap is_nan (differs_from_itself x (subst T (sym e) tt))

pub agrees : (x : Float) → ne x x ≡ false → is_nan x ≡ false
agrees x e = is_false (is_nan x) (same-no-nan x e)

pub by-test : (x : Float) → ne x x ≡ is_nan x
by-test x = go (ne x x) refl
  where
    go : (b : Bool) → ne x x ≡ b → b ≡ is_nan x
    go true e = sym (differs x e)
    go false e = sym (agrees x e)

pub zero_by_zero : div binary32 (of_bits binary32 0) (of_bits binary32 0) ≡ nan
unfolding div of_bits
zero_by_zero = refl

-- ---- the NaN pattern

pub nan-bits : to_bits binary32 nan ≡ pattern
unfolding to_bits
nan-bits = refl

pattern-nan : of_bits binary32 pattern ≡ nan
unfolding of_bits
pattern-nan = refl

-- only NaN has the bits of the NaN pattern
pub pattern-only : (x : Float) → T (fits binary32 x) → to_bits binary32 x ≡ pattern → is_nan x ≡ true
unfolding is_nan
pattern-only x f e = ap is_nan (sym (of_bits-to_bits binary32 x f) ∙ ap (of_bits binary32) e ∙ pattern-nan)

-- so comparing with the NaN pattern decides whether x is NaN
pub pattern-tells : (x : Float) → T (fits binary32 x) → eqb (to_bits binary32 x) pattern ≡ is_nan x
pattern-tells x f = go (is_nan x) refl
  where
    go : (b : Bool) → is_nan x ≡ b → eqb (to_bits binary32 x) pattern ≡ b
    go true e = eq-eqb _ _ (ap (to_bits binary32) (is-nan x e) ∙ nan-bits)
    go false e = ne_eqb _ _ (λ q. true≢false (sym (pattern-only x f q) ∙ e))

-- bits above those of infinity, leaving the sign bit aside, are NaN
pub nan-above : (b : ℕ) → 0x7F800000 < b % 0x80000000 → of_bits binary32 b ≡ nan
nan-above b h = is-nan _ (sym (nan_bits_is binary32 b) ∙ nan_bits_above binary32 b ∙ lt-ltb _ _ h)

-- all other bits are numbers
pub number-below : (b : ℕ) → b % 0x80000000 ≤ 0x7F800000 → T (not (nan_bits binary32 b))
number-below b h = subst (λ t. T (not t)) (sym (nan_bits_above binary32 b ∙ le-ltb _ _ h)) tt
