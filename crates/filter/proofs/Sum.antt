-- `kept`, by the tests that the code makes. Assumes nothing.
use Prim.Native.Nat.{ℕ, ◌<◌, min}
use mathlib.Core.Path.{◌≡◌, ap}
use mathlib.Core.Bool.{true, false}
use native.Mathlib.Omega.{arith}
use borrow.Author.Tests.{ltb-true, ltb-false}
use lib.IntN.{ℤ, pos, negsuc}
use lib.Signed.{mag, lt_z}
use Rattle.filter.specs.Filter.{kept}

clash : {A : Type 0} → false ≡ true → A
clash e = absurd (let z : ◌≡◌ {A = ℕ} 0 1 = cc in let q : ⊥ = omega arith in q)

pub too-low : (z : ℤ) → lt_z z (negsuc 524287) ≡ true → negsuc 524287 ≡ kept z
too-low (pos n) e = clash e
too-low (negsuc n) e = let h = ltb-true 524287 n e in ap negsuc (let m : 524287 ≡ min n 524287 = omega arith in m)

pub too-high : (z : ℤ) → lt_z (pos 524287) z ≡ true → pos 524287 ≡ kept z
too-high (pos n) e = let h = ltb-true 524287 n e in ap pos (let m : 524287 ≡ min n 524287 = omega arith in m)
too-high (negsuc n) e = clash e

pub inside : (z : ℤ) → mag z < 524288 → z ≡ kept z
inside (pos n) h = ap pos (let m : n ≡ min n 524287 = omega arith in m)
inside (negsuc n) h = ap negsuc (let m : n ≡ min n 524287 = omega arith in m)

pub small : (z : ℤ) → lt_z z (negsuc 524287) ≡ false → lt_z (pos 524287) z ≡ false → mag z < 524288
small (pos n) e f = let h = ltb-false 524287 n f in omega arith
small (negsuc n) e f = let h = ltb-false 524287 n e in omega arith

pub kept_small : (z : ℤ) → mag (kept z) < 524288
kept_small (pos n) = omega arith
kept_small (negsuc n) = omega arith
