-- Document 02, CR 4, made the average all 16 bits of the combined word, where it had been the low 11: for which words both are equal. Assumes nothing.
use Prim.Native.Nat.{ℕ, suc, ◌-◌, ◌%◌, ◌^◌, ◌<◌}
use mathlib.Core.Path.{◌≡◌, ap, sym, ◌∙◌, subst}
use native.Mathlib.Omega.{arith}
use lib.Dec.{ltb, lit≤}
use lib.IntN.{ℤ, pos, negsuc}
use lib.Signed.{mag}
use Rattle.lists.specs.Pick.{pick}
use Rattle.util.specs.Fields.{signed, bits_of}
use Rattle.util.proofs.Width.{stands}

-- for the combined word n, both averages are equal exactly if the new one is from -1024 to 1023 (`mag` is n for both n and -1 - n)
pub record SameExactly (n : ℕ) : Type 0 where
  pub within : signed 11 n ≡ signed 16 n → mag (signed 16 n) < 1024
  pub same : mag (signed 16 n) < 1024 → signed 11 n ≡ signed 16 n

-- `signed 11` depends only on the low 11 bits
low : (m n : ℕ) → m % 2 ^ 11 ≡ n % 2 ^ 11 → signed 11 m ≡ signed 11 n
unfolding signed
low m n e = ap (λ (k : ℕ). pick (ltb k (2 ^ 10)) (pos k) (negsuc (2 ^ 11 - suc k))) e

-- if z fits 11 bits, its 11 bits are the low bits of its 16
narrow : (n : ℕ) (z : ℤ) → mag z < 1024 → bits_of 16 z ≡ n % 2 ^ 16 → bits_of 11 z % 2 ^ 11 ≡ n % 2 ^ 11
narrow n (pos m) h e = omega arith
narrow n (negsuc m) h e = omega arith

wider : (n : ℕ) → mag (signed 16 n) < 1024 → signed 11 n ≡ signed 16 n
wider n h =
    let z = signed 16 n in
    sym (low (bits_of 11 z) n (narrow n z h ((stands 16 (lit≤ tt)).bits n))) ∙ (stands 11 (lit≤ tt)).only z h

pub averages : (n : ℕ) → SameExactly n
averages n = record { within = λ e. subst (λ (z : ℤ). mag z < 1024) e ((stands 11 (lit≤ tt)).range n); same = wider n }
