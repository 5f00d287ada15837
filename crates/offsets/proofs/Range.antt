-- Bounds of offsets and of the intermediate numbers, and facts about the basis. Assumes nothing.
use Prim.Native.Nat.{ℕ, zero, suc, ◌+◌, ◌*◌, ◌^◌, ◌<◌, ◌≤◌}
use mathlib.Core.Path.{◌≡◌, ap, ap₂, ◌∙◌}
use native.Mathlib.Nat.{le_trans, mul-le-mul_left, mul-le-mul_right}
use native.Mathlib.Omega.{arith}
use lib.Dec.{lit≤}
use lib.IntN.{ℤ, pos, negsuc, neg_ℤ, ◌*ℤ◌}
use lib.Pow.{pow_mono}
use lib.Signed.{mag}
use mir.Syntax.{w16}
use mir.Val.{to_z, of_z}
use Rattle.util.specs.Fields.{signed, combined}
use Rattle.util.proofs.Width.{stands}
use Rattle.util.proofs.Range.{back16, sum-mag}
use Rattle.map.specs.declared.Field.TheVariants.{OffsetAverage}
use Rattle.map.specs.Map.{word_of}
use Rattle.offsets.specs.Offsets.{scales, offset_scale, offset_average, average_of, entry_word, product_of, product_at, offset_at}
use Rattle.offsets.specs.Inner.{basis_of}
use Rattle.offsets.specs.declared.Basis.{Basis}

-- ---- raw × 2^scale, and its sum with the average

minus : (r : ℕ) → mag (neg_ℤ (pos r)) ≤ r
minus zero = omega arith
minus (suc r) = omega arith

times : (z : ℤ) (p : ℕ) → mag z < 1024 → p ≤ 1048576 → mag (z *ℤ pos p) ≤ 1073741824
times (pos n) p h l = le_trans (mul-le-mul_left n l) (let k : n ≤ 1024 = omega arith in mul-le-mul_right 1048576 k)
times (negsuc n) p h l = le_trans (minus (suc n * p)) (le_trans (mul-le-mul_left (suc n) l) (let k : suc n ≤ 1024 = h in mul-le-mul_right 1048576 k))

pub product-mag : (raw scale : ℕ) → scale < scales → mag (product_of raw scale) ≤ 1073741824
unfolding product_of
product-mag raw scale h = times (signed 11 raw) (2 ^ scale) ((stands 11 (lit≤ tt)).range raw) (pow_mono {i = scale} {j = 20} (omega arith))

pub average-mag : (w : ℕ → ℕ) → mag (average_of w) < 32768
unfolding average_of offset_average
average-mag w = (stands 16 (lit≤ tt)).range (combined (w (word_of OffsetAverage 0)) (w (word_of OffsetAverage 1)))

-- the offsets of any card are at most 2 ^ 30 + 2 ^ 15 in magnitude
pub offset-mag : (w : ℕ → ℕ) (entry : ℕ) → offset_scale w < scales → mag (offset_at w entry) ≤ 2 ^ 30 + 2 ^ 15
unfolding offset_at product_at
offset-mag w entry h =
    let a = average-mag w in
    sum-mag 32767 1073741824 1073774592 (average_of w) (product_of (w (entry_word entry)) (offset_scale w)) (omega arith) (omega arith) (product-mag (w (entry_word entry)) (offset_scale w) h)

-- ---- the basis as read has the scale and average of the definitions

module _ (w : ℕ → ℕ) (s : Basis) (e : s ≡ basis_of w) where
  pub scale-is : s.scale ≡ offset_scale w
  unfolding basis_of
  scale-is = ap (λ (x : Basis). x.scale) e

  average-is : s.average ≡ average_of w
  unfolding basis_of
  average-is = ap (λ (x : Basis). x.average) e

  pub average-clean : to_z w16 (of_z w16 s.average) ≡ average_of w
  average-clean = ap (λ (a : ℤ). to_z w16 (of_z w16 a)) average-is ∙ back16 (average_of w) (average-mag w)

  pub product_at_lem : (entry word : ℕ) → word ≡ entry_word entry → product_of (w word) s.scale ≡ product_at w entry
  unfolding product_at
  product_at_lem entry word q = ap₂ (λ (k n : ℕ). product_of (w k) n) q scale-is
