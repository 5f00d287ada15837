-- Signed fields of any width k: the numbers from -2 ^ (k - 1) to 2 ^ (k - 1) - 1 correspond one to one to the patterns of k bits.
-- Assumes nothing.
use mathlib.Core.Path.{◌≡◌, refl, sym, ap, ◌∙◌, subst}
use mathlib.Core.Bool.{Bool}
use Prim.Native.Nat.{ℕ, zero, suc, ◌-◌, ◌*◌, ◌%◌, ◌^◌, ◌<◌, ◌≤◌}
use native.Mathlib.Nat.{pow-suc, mod-lt, mod-eq_of_lt, lt_of_not-le, zero-add}
use native.Mathlib.Decide.{dec_le}
use native.Mathlib.Omega.{arith}
use lib.Pow.{pow_pos, pow_mono}
use lib.IntN.{ℤ, pos, negsuc, ◌-ℤ◌}
use lib.Signed.{mag}
use mir.Syntax.{w16}
use mir.Val.{to_z, of_z}
use mir.ValLaws.{to_z-of_z}
use borrow.Author.Tests.{lt-ltb, le-ltb}
use Rattle.lists.specs.Pick.{pick}
use Rattle.util.specs.Fields.{signed, bits_of, Stands}

pub twice : (k : ℕ) → 1 ≤ k → 2 ^ k ≡ 2 ^ (k - 1) * 2
twice k h = ap (λ (n : ℕ). 2 ^ n) (let e : k ≡ suc (k - 1) = omega arith in e) ∙ pow-suc 2 (k - 1)

module _ (k n : ℕ) where
  pub signed_low : n % 2 ^ k < 2 ^ (k - 1) → signed k n ≡ pos (n % 2 ^ k)
  unfolding signed
  signed_low h = ap (λ (b : Bool). pick b (pos (n % 2 ^ k)) (negsuc (2 ^ k - suc (n % 2 ^ k)))) (lt-ltb (n % 2 ^ k) (2 ^ (k - 1)) h)

  pub signed_high : 2 ^ (k - 1) ≤ n % 2 ^ k → signed k n ≡ negsuc (2 ^ k - suc (n % 2 ^ k))
  unfolding signed
  signed_high h = ap (λ (b : Bool). pick b (pos (n % 2 ^ k)) (negsuc (2 ^ k - suc (n % 2 ^ k)))) (le-ltb (n % 2 ^ k) (2 ^ (k - 1)) h)

-- a claim about `signed k n` follows from its two cases: low bits below the half, and not below
by-half : (k : ℕ) (P : ℤ → Type 0) (n : ℕ) → (n % 2 ^ k < 2 ^ (k - 1) → P (pos (n % 2 ^ k)))
    → (2 ^ (k - 1) ≤ n % 2 ^ k → P (negsuc (2 ^ k - suc (n % 2 ^ k)))) → P (signed k n)
by-half k P n low high = elim (dec_le (2 ^ (k - 1)) (n % 2 ^ k)) [
  | yes h ↦ subst P (sym (signed_high k n h)) (high h)
  | no f ↦ let h : n % 2 ^ k < 2 ^ (k - 1) = lt_of_not-le f in subst P (sym (signed_low k n h)) (low h)
]

range-of : (k : ℕ) → 1 ≤ k → (n : ℕ) → mag (signed k n) < 2 ^ (k - 1)
range-of k p n =
    let l : n % 2 ^ k < 2 ^ k = mod-lt n (pow_pos k) in
    let t = twice k p in
    by-half k (λ (z : ℤ). mag z < 2 ^ (k - 1)) n (λ h. h) (λ h. omega arith)

bits-of : (k : ℕ) (n : ℕ) → bits_of k (signed k n) ≡ n % 2 ^ k
bits-of k n =
    let l : n % 2 ^ k < 2 ^ k = mod-lt n (pow_pos k) in
    by-half k (λ (z : ℤ). bits_of k z ≡ n % 2 ^ k) n (λ h. refl) (λ h. omega arith)

only_of : (k : ℕ) → 1 ≤ k → (z : ℤ) → mag z < 2 ^ (k - 1) → signed k (bits_of k z) ≡ z
only_of k p (pos n) h =
    let t = twice k p in
    let e : n % 2 ^ k ≡ n = mod-eq_of_lt (omega arith) in
    signed_low k n (subst (λ (x : ℕ). x < 2 ^ (k - 1)) (sym e) h) ∙ ap pos e
only_of k p (negsuc n) h =
    let t = twice k p in
    let m : ℕ = 2 ^ k - suc n in
    let e : m % 2 ^ k ≡ m = mod-eq_of_lt (omega arith) in
    signed_high k m (subst (λ (x : ℕ). 2 ^ (k - 1) ≤ x) (sym e) (omega arith))
    ∙ ap (λ (x : ℕ). negsuc (2 ^ k - suc x)) e ∙ ap negsuc (let b : 2 ^ k - suc m ≡ n = omega arith in b)

-- the fact `Stands`, proved for every width
pub stands : (k : ℕ) → 1 ≤ k → Stands k
stands k p = record { range = range-of k p; bits = bits-of k; only = only_of k p }

-- -1 - m, which is how the code computes the negative numbers
pub minus_one : (m : ℕ) → negsuc 0 -ℤ pos m ≡ negsuc m
minus_one zero = refl
minus_one (suc m) = ap (λ (n : ℕ). negsuc (suc n)) (zero-add m)

-- a signed field of up to 16 bits fits an i16
pub signed_back : (k n : ℕ) → 1 ≤ k → k ≤ 16 → to_z w16 (of_z w16 (signed k n)) ≡ signed k n
signed_back k n p q =
    let l : 2 ^ (k - 1) ≤ 2 ^ 15 = pow_mono {i = k - 1} {j = 15} (omega arith) in
    to_z-of_z w16 (signed k n) (record { sfits = let h = range-of k p n in omega arith })
