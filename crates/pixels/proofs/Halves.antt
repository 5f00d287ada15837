-- A whole number of 32 bits as a float, from its halves: each half is exact, and so is the upper half times 2^16, so only the sum rounds. The lower half is
-- added to the upper, for a number below 0 too. Assumes nothing.
use mathlib.Core.Path.{◌≡◌, sym, ap, ◌∙◌, subst}
use mathlib.Core.Bool.{Bool, true, false}
use Prim.Native.Nat.{ℕ, suc, ◌+◌, ◌-◌, ◌*◌, ◌/◌, ◌%◌, ◌^◌, ◌≤◌, ◌<◌}
use native.Mathlib.Nat.{mul_assoc, mul_comm, mul_right_comm, mul-one, mul-pos, add-mul, mul-lt-mul_of_pos_right, div-add-mod', lt_of_le_of_lt, mod-lt}
use native.Mathlib.Omega.{arith}
use lib.Bits.{bit_and, and_mask}
use lib.Dec.{T, lit<, le→leb, lt→ltb}
use borrow.Author.Tests.{le-ltb, lt-ltb}
use lib.Pow.{shl_lt}
use lib.IntN.{ℤ, pos, negsuc}
use lib.Signed.{shr_z, mag_shr}
use mir.Syntax.{w32}
use mir.Val.{of_z, to_z, SFits}
use mir.Facts.{to_z-of_z, to_z_pos}
use lib.Ieee.{Float, nan, inf, fin, Format, binary32, up, down, round, sum, add, mul, of_int, in_float, of_bits}
use lib.Ieee.Exact.{HasValue, round_exact}
use lib.Ieee.Scale.{round_same}
use lib.Ieee.Back.{round_whole}
use lib.Ieee.Fits.{down_pos}

-- a size over c = down e * down d, from the value
over-both : (m u c a : ℕ) (d : ℕ) → m * u * 1 ≡ a * c → m * u * d ≡ a * (c * d)
over-both m u c a d e = ap (λ (x : ℕ). x * d) (sym (mul-one (m * u)) ∙ e) ∙ mul_assoc a c d

module _ (f : Format) where
  -- both above 0
  pub add-up : (x y : Float) (a b : ℕ) → HasValue x false a 1 → HasValue y false b 1 → add f x y ≡ round f false (a + b) 1
  unfolding add sum
  add-up nan y a b p q = absurd p
  add-up (inf s) y a b p q = absurd p
  add-up (fin s m e) nan a b p q = absurd q
  add-up (fin s m e) (inf t) a b p q = absurd q
  add-up (fin s m e) (fin t n d) a b p q =
      let c = down e * down d in
      let A : m * up e * down d ≡ a * c = over-both m (up e) (down e) a (down d) p.1 in
      let B : n * up d * down e ≡ b * c = over-both n (up d) (down d) b (down e) q.1 ∙ ap (λ (k : ℕ). b * k) (mul_comm (down d) (down e)) in
      rw (p.0, q.0, A, B) (round_same f false (a * c + b * c) c (a + b) 1 (mul-pos (down_pos e) (down_pos d)) (lit< tt) (mul-one (a * c + b * c) ∙ sym (add-mul a b c)))

  -- the first below 0, and larger
  pub add-down : (x y : Float) (a b : ℕ) → b < a → HasValue x true a 1 → HasValue y false b 1 → add f x y ≡ round f true (a - b) 1
  unfolding add sum
  add-down nan y a b l p q = absurd p
  add-down (inf s) y a b l p q = absurd p
  add-down (fin s m e) nan a b l p q = absurd q
  add-down (fin s m e) (inf t) a b l p q = absurd q
  add-down (fin s m e) (fin t n d) a b l p q =
      let c = down e * down d in
      let h : 0 < c = mul-pos (down_pos e) (down_pos d) in
      let A : m * up e * down d ≡ a * c = over-both m (up e) (down e) a (down d) p.1 in
      let B : n * up d * down e ≡ b * c = over-both n (up d) (down d) b (down e) q.1 ∙ ap (λ (k : ℕ). b * k) (mul_comm (down d) (down e)) in
      let k : b * c < a * c = mul-lt-mul_of_pos_right l h in
      let g : a * c - b * c ≡ (a - b) * c = let z : a - b + b ≡ a = omega arith in let w = ap (λ (x : ℕ). x * c) (sym z) ∙ add-mul (a - b) b c in omega arith in
      rw (p.0, q.0, A, B, le-ltb (a * c) (b * c) (omega arith), lt-ltb (b * c) (a * c) k)
      (round_same f true (a * c - b * c) c (a - b) 1 h (lit< tt) (mul-one (a * c - b * c) ∙ g))

-- 2^16, as the code writes it
abbrev pub shift : Float
shift = of_bits binary32 1199570944

sizes : (m c a : ℕ) → m * 1 ≡ a * c → m * 65536 * 1 ≡ a * 65536 * (c * 1)
sizes m c a e = omega (arith, e, mul_right_comm a 65536 c)

times : (x : Float) (s : Bool) (a : ℕ) → HasValue x s a 1 → mul binary32 x shift ≡ round binary32 s (a * 65536) 1
unfolding mul of_bits
times nan s a p = absurd p
times (inf t) s a p = absurd p
times (fin true m e) s a p =
    round_same binary32 true (m * up e * 65536) (down e * 1) (a * 65536) 1 (mul-pos (down_pos e) (lit< tt)) (lit< tt) (sizes (m * up e) (down e) a p.1)
    ∙ ap (λ (t : Bool). round binary32 t (a * 65536) 1) p.0
times (fin false m e) s a p =
    round_same binary32 false (m * up e * 65536) (down e * 1) (a * 65536) 1 (mul-pos (down_pos e) (lit< tt)) (lit< tt) (sizes (m * up e) (down e) a p.1)
    ∙ ap (λ (t : Bool). round binary32 t (a * 65536) 1) p.0

times-val : (s : Bool) (a : ℕ) → a ≤ 32768 → HasValue (mul binary32 (round binary32 s a 1) shift) s (a * 65536) 1
times-val s a h =
    subst (λ (x : Float). HasValue x s (a * 65536) 1) (sym (times (round binary32 s a 1) s a (round_whole binary32 s a (omega arith))))
    (round_exact binary32 s (a * 65536) 1 a 165 (lit< tt) (omega arith) (shl_lt 112 165 (omega arith)) (mul_assoc a 65536 (2 ^ 149) ∙ sym (mul-one (a * 2 ^ 165))))

-- the upper half, with the sign
abbrev pub upper : ℤ → ℤ
upper z = shr_z z 65536

-- the lower half, which is never negative
abbrev pub lower : ℤ → ℕ
lower z = of_z w32 z % 65536

-- the sum of both halves is the number, rounded once
pub halves : (z : ℤ) → SFits w32 z → add binary32 (mul binary32 (of_int binary32 (upper z)) shift) (of_int binary32 (pos (lower z))) ≡ of_int binary32 z
unfolding of_int
halves (pos n) h =
    let l : n < 2 ^ 31 = h.sfits in
    add-up binary32 (mul binary32 (round binary32 false (n / 65536) 1) shift) (round binary32 false (n % 65536) 1) (n / 65536 * 65536) (n % 65536)
    (times-val false (n / 65536) (omega arith)) (round_whole binary32 false (n % 65536) (omega arith))
    ∙ ap (λ (k : ℕ). round binary32 false k 1) (div-add-mod' n 65536)
halves (negsuc n) h =
    let l : n < 2 ^ 31 = h.sfits in
    let b = lower (negsuc n) in
    let e : suc (n / 65536) * 65536 - b ≡ suc n = omega arith in
    add-down binary32 (mul binary32 (round binary32 true (suc (n / 65536)) 1) shift) (round binary32 false b 1) (suc (n / 65536) * 65536) b (omega arith)
    (times-val true (suc (n / 65536)) (omega arith)) (round_whole binary32 false b (omega arith))
    ∙ ap (λ (k : ℕ). round binary32 true k 1) e

-- ---- the halves as the code computes them, and that each is exact as a float

module _ (z : ℤ) (h : SFits w32 z) where
  pub upper_is : to_z w32 (of_z w32 (upper (to_z w32 (of_z w32 z)))) ≡ upper z
  upper_is =
      ap (λ (y : ℤ). to_z w32 (of_z w32 (upper y))) (to_z-of_z {w = w32} h)
      ∙ to_z-of_z {w = w32} (record { sfits = lt_of_le_of_lt (mag_shr z 65536) h.sfits })

  pub lower-is : to_z w32 (bit_and (of_z w32 z) 65535) ≡ pos (lower z)
  lower-is = ap (to_z w32) (and_mask (of_z w32 z) 16) ∙ to_z_pos w32 (let l : lower z < 65536 = mod-lt (of_z w32 z) (lit< tt) in omega arith)

  pub lower_in : T (in_float binary32 (pos (lower z)))
  unfolding in_float
  lower_in = le→leb (lower z) (2 ^ 24) (let l : lower z < 65536 = mod-lt (of_z w32 z) (lit< tt) in omega arith)

pub upper_in : (z : ℤ) → SFits w32 z → T (in_float binary32 (upper z))
unfolding in_float
upper_in (pos n) h = let l : n < 2 ^ 31 = h.sfits in le→leb (n / 65536) (2 ^ 24) (omega arith)
upper_in (negsuc n) h = let l : n < 2 ^ 31 = h.sfits in lt→ltb (n / 65536) (2 ^ 24) (omega arith)
