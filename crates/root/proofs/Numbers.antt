-- If a sum, a difference or a product is not NaN, neither are its operands; and a float that is above another is not NaN. Assumes nothing.
use Rattle.std.proofs.Common.{◌≡◌, ℕ, ◌%◌, ◌<◌, Bool, true, not, T, sym, ◌∙◌, subst, arith, le-ltb}
use lib.Ieee.{Float, nan, inf, fin, Format, binary64, add, sub, mul, neg, lt, is_nan, nan_bits}
use lib.Ieee.Bits.{nan_bits_above}

abbrev pub Number : Float → Type 0
Number x = T (not (is_nan x))

pub add_left : (f : Format) (x y : Float) → Number (add f x y) → Number x
unfolding add is_nan
add_left f nan y h = h
add_left f (inf s) y h = tt
add_left f (fin s m e) y h = tt

pub add_right : (f : Format) (x y : Float) → Number (add f x y) → Number y
unfolding add is_nan
add_right f nan nan h = h
add_right f (inf s) nan h = h
add_right f (fin s m e) nan h = h
add_right f x (inf t) h = tt
add_right f x (fin t n d) h = tt

pub sub-left : (f : Format) (x y : Float) → Number (sub f x y) → Number x
unfolding sub
sub-left f x y h = add_left f x (neg y) h

pub mul_left : (f : Format) (x y : Float) → Number (mul f x y) → Number x
unfolding mul is_nan
mul_left f nan y h = h
mul_left f (inf s) y h = tt
mul_left f (fin s m e) y h = tt

-- a float that is above another is not NaN
pub above-number : (x y : Float) → lt x y ≡ true → Number y
unfolding lt is_nan
above-number nan nan e = subst T (sym e) tt
above-number (inf s) nan e = subst T (sym e) tt
above-number (fin s m d) nan e = subst T (sym e) tt
above-number x (inf t) e = tt
above-number x (fin t n d) e = tt

-- the bits of a binary64 NaN are not below infinity's
pub number-64 : (b : ℕ) → b < 0x7FF0000000000000 → T (not (nan_bits binary64 b))
number-64 b h = subst (λ (t : Bool). T (not t)) (sym (nan_bits_above binary64 b ∙ le-ltb 0x7FF0000000000000 (b % 0x8000000000000000) (omega arith))) tt
