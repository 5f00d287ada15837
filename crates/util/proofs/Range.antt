-- The range of an i16, and how large differences are. Assumes nothing.
use Prim.Native.Nat.{ℕ, zero, suc, ◌+◌, ◌<◌, ◌≤◌}
use mathlib.Core.Path.{◌≡◌, sym}
use mathlib.Core.Bool.{Bool, true, false, cond}
use native.Mathlib.Omega.{arith}
use lib.Dec.{ltb, leb-suc-suc}
use lib.IntN.{ℤ, pos, negsuc, neg_ℤ, ◌+ℤ◌, ◌-ℤ◌}
use lib.Signed.{mag, lt_z, le_z}
use mir.Syntax.{w16, w32}
use mir.Val.{to_z, of_z}
use mir.ValLaws.{to_z-of_z}
use borrow.Author.Tests.{ltb-true, ltb-false, lt-ltb, le-ltb}
use Rattle.util.specs.Fields.{in_i16}

-- ---- the range of an i16, by the code's two comparisons

clash : {A : Type 0} → false ≡ true → A
clash e = absurd (let z : ◌≡◌ {A = ℕ} 0 1 = cc in let q : ⊥ = omega arith in q)

pub too-low : (z : ℤ) → lt_z z (negsuc 32767) ≡ true → false ≡ in_i16 z
unfolding in_i16
too-low (pos n) e = clash e
too-low (negsuc n) e = let h = ltb-true 32767 n e in sym (le-ltb n 32768 (omega arith))

pub by-top : (z : ℤ) → lt_z z (negsuc 32767) ≡ false → le_z z (pos 32767) ≡ in_i16 z
unfolding in_i16
by-top (pos n) e = sym (leb-suc-suc n 32767)
by-top (negsuc n) e = let h = ltb-false 32767 n e in sym (lt-ltb n 32768 (omega arith))

-- ---- sums and differences

by-test : (t : Bool) (m n b : ℕ) → m ≤ b → n ≤ b → mag (cond t (negsuc m) (pos n)) ≤ b
by-test true m n b h k = h
by-test false m n b h k = k

-- if the magnitudes of a and b are at most p and q, that of their sum is at most p + q + 1
pub sum-mag : (p q r : ℕ) (a b : ℤ) → p + q < r → mag a ≤ p → mag b ≤ q → mag (a +ℤ b) ≤ r
sum-mag p q r (pos a) (pos b) l h k = omega arith
sum-mag p q r (pos a) (negsuc b) l h k = by-test (ltb a (suc b)) _ _ r (omega arith) (omega arith)
sum-mag p q r (negsuc a) (pos b) l h k = by-test (ltb b (suc a)) _ _ r (omega arith) (omega arith)
sum-mag p q r (negsuc a) (negsuc b) l h k = omega arith

neg-mag : (z : ℤ) → mag (neg_ℤ z) ≤ suc (mag z)
neg-mag (pos zero) = omega arith
neg-mag (pos (suc n)) = omega arith
neg-mag (negsuc n) = omega arith

-- the difference of two i16 is at most 65536 in magnitude
pub difference-mag : (a b : ℤ) → mag a < 32768 → mag b < 32768 → mag (a -ℤ b) ≤ 65536
difference-mag a b h k = sum-mag 32767 32768 65536 a (neg_ℤ b) (omega arith) (omega arith) (let n = neg-mag b in omega arith)

-- ---- a number that fits i16 or i32 survives conversion to that type and back

pub back16 : (z : ℤ) → mag z < 32768 → to_z w16 (of_z w16 z) ≡ z
back16 z h = to_z-of_z w16 z (record { sfits = h })

pub back32 : (z : ℤ) → mag z < 2147483648 → to_z w32 (of_z w32 z) ≡ z
back32 z h = to_z-of_z w32 z (record { sfits = h })
