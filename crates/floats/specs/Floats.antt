-- The four operators of binary32, each rounded once to nearest, ties to even; powers of two; and the test for zero. Assumes nothing.
use Rattle.std.specs.Prelude.{ℕ, Bool, false, ltb, ℤ, pos, Float}
use Rattle.std.specs.Float.{inf, fin, binary32}
use Rattle.std.specs.Float.Ieee.{add, sub, mul, div, of_int, eq}
use Rattle.lists.specs.Pick.{pick}
use Rattle.floats.specs.Constants.{plus_zero}

infixl 60 ◌⊕◌
infixl 60 ◌⊖◌
infixl 70 ◌⊗◌
infixl 70 ◌⊘◌
abbrev pub ◌⊕◌ : Float → Float → Float
x ⊕ y = add binary32 x y

abbrev pub ◌⊖◌ : Float → Float → Float
x ⊖ y = sub binary32 x y

abbrev pub ◌⊗◌ : Float → Float → Float
x ⊗ y = mul binary32 x y

abbrev pub ◌⊘◌ : Float → Float → Float
x ⊘ y = div binary32 x y

-- a whole number as binary32, rounded to nearest if it has more than 24 binary digits
abbrev pub real : ℤ → Float
real z = of_int binary32 z

-- 2 ^ e: exact for e below 128, else infinity
unfoldable pub power_of_two : ℕ → Float
power_of_two e = pick (ltb e 128) (fin false 1 (pos e)) (inf false)

-- a whole number divided by 2 ^ e, in binary32
abbrev pub over : ℤ → ℕ → Float
over z e = real z ⊘ power_of_two e

-- whether x is +0 or -0
abbrev pub is_zero : Float → Bool
is_zero x = eq x plus_zero
