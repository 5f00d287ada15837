-- Bounds of a pixel's whole numbers and their parts, from averages and scales; so on every card they fit 32 bits. Assumes nothing.
use Prim.Native.Nat.{ℕ, zero, suc, ◌+◌, ◌-◌, ◌*◌, ◌/◌, ◌%◌, ◌^◌, ◌<◌, ◌≤◌}
use native.Mathlib.Nat.{le_trans, mul-pos, mul-le-mul_left, mul-le-mul_right, mul-lt-mul_of_pos_right, mod-lt}
use native.Mathlib.Omega.{arith}
use lib.Dec.{T, lit≤, le→leb, lt→ltb}
use lib.Ieee.{binary32, in_float}
use lib.IntN.{ℤ, pos, negsuc, neg_ℤ, ◌+ℤ◌, ◌*ℤ◌}
use lib.ListN.{get_or}
use lib.Pow.{pow_pos, pow_mono}
use lib.Signed.{mag}
use Rattle.util.specs.Fields.{signed}
use Rattle.util.proofs.Width.{stands}
use Rattle.util.proofs.Range.{sum-mag}
use Rattle.mlx90640.specs.Pixels.{row, column, chessboard_at}
use Rattle.map640.specs.declared.Field.{Field}
use Rattle.map640.specs.Map.{word_of}
use Rattle.sums640.specs.Sums.{scaled, row_scale, column_scale, rest_scale, coefficient_at, Part, offset_part, alpha_part, scales_of, row_sum_at, column_at, base_at, pixel_word, offset_at, average_bytes, average_at, alpha_base_at, alpha_rest_at, k_ta_sum_at}
use Rattle.sums640.specs.Inner.{base_bound, nibble_at}

-- ---- a number is within b if `mag` is below b: from -b to b - 1. Bounds of sums and products are sums and products of bounds.

minus : (r b : ℕ) → r ≤ b → 0 < b → mag (neg_ℤ (pos r)) < b
minus zero b h l = l
minus (suc r) b h l = h

times : (z : ℤ) (m p : ℕ) → mag z < m → 0 < p → mag (z *ℤ pos p) < m * p
times (pos n) m p h l = mul-lt-mul_of_pos_right h l
times (negsuc n) m p h l = minus (suc n * p) (m * p) (mul-le-mul_right p h) (mul-pos (omega arith) l)

plus : (p q : ℕ) (a b : ℤ) → mag a < p → mag b < q → mag (a +ℤ b) < p + q
plus p q a b h k = let s = sum-mag (p - 1) (q - 1) (p + q - 1) a b (omega arith) (omega arith) (omega arith) in omega arith

pub signed-mag : (width n : ℕ) → 1 ≤ width → width ≤ 6 → mag (signed width n) < 32
signed-mag width n h l = le_trans ((stands width h).range n) (pow_mono {i = width - 1} {j = 5} (omega arith))

pub power-most : (scale : ℕ) → scale < 16 → 2 ^ scale ≤ 32768
power-most scale h = pow_mono {i = scale} {j = 15} (omega arith)

-- the bound of a field times 2 ^ scale
pub scaled-within : (width n scale : ℕ) → 1 ≤ width → mag (scaled width n scale) < 2 ^ (width - 1) * 2 ^ scale
unfolding scaled
scaled-within width n scale h = times (signed width n) (2 ^ (width - 1)) (2 ^ scale) ((stands width h).range n) (pow_pos scale)

-- the same for a field of at most six bits
pub scaled-mag : (width n scale : ℕ) → 1 ≤ width → width ≤ 6 → scale < 16 → mag (scaled width n scale) ≤ 1048576
scaled-mag width n scale h l s = let z = le_trans (scaled-within width n scale h) (le_trans (mul-le-mul_left (2 ^ (width - 1)) (power-most scale s)) (mul-le-mul_right 32768 (pow_mono {i = width - 1} {j = 5} (omega arith)))) in omega arith

small : (n : ℕ) → n % 16 < 16
small n = mod-lt n (omega arith)

pub average-mag : (n : ℕ) → mag (signed 16 n) ≤ 32767
average-mag n = let h = (stands 16 (lit≤ tt)).range n in omega arith

module _ (w : ℕ → ℕ) where
  coefficient-within : (field : Field) (k scale : ℕ) → mag (coefficient_at w field k scale) < 8 * 2 ^ scale
  unfolding coefficient_at
  coefficient-within field k scale = scaled-within 4 _ scale (lit≤ tt)

  pub nibble-mag : (first k scale : ℕ) → scale < 16 → mag (nibble_at w first k scale) ≤ 1048576
  unfolding nibble_at
  nibble-mag first k scale h = scaled-mag 4 _ scale (lit≤ tt) (lit≤ tt) h

  module _ (part : Part) where
    abbrev scales : ℕ
    scales = scales_of w part

    abbrev average : ℕ
    average = w (word_of part.average 0)

    row-sum-within : (k : ℕ) → mag (row_sum_at w part k) < mag (signed 16 average) + 1 + 8 * 2 ^ row_scale scales
    unfolding row_sum_at
    row-sum-within k = plus (mag (signed 16 average) + 1) (8 * 2 ^ row_scale scales) (signed 16 average) (coefficient_at w part.rows k (row_scale scales)) (omega arith) (coefficient-within part.rows k (row_scale scales))

    column-within : (k : ℕ) → mag (column_at w part k) < 8 * 2 ^ column_scale scales
    unfolding column_at
    column-within k = coefficient-within part.columns k (column_scale scales)

    pub base-within : (pixel : ℕ) → mag (base_at w part pixel) < base_bound scales average
    unfolding base_at
    base-within pixel = plus (mag (signed 16 average) + 1 + 8 * 2 ^ row_scale scales) (8 * 2 ^ column_scale scales) (row_sum_at w part (row pixel)) (column_at w part (column pixel)) (row-sum-within (row pixel)) (column-within (column pixel))

    pub row-sum-mag : (k : ℕ) → mag (row_sum_at w part k) ≤ 294912
    row-sum-mag k = omega (arith, row-sum-within k, average-mag average, power-most (row_scale scales) (small (scales / 256)))

    pub column-mag : (k : ℕ) → mag (column_at w part k) ≤ 262144
    column-mag k = omega (arith, column-within k, power-most (column_scale scales) (small (scales / 16)))

    base-most : base_bound scales average ≤ 557056
    base-most = omega (arith, average-mag average, power-most (row_scale scales) (small (scales / 256)), power-most (column_scale scales) (small (scales / 16)))

    pub base-mag : (pixel : ℕ) → mag (base_at w part pixel) ≤ 557057
    base-mag pixel = omega (arith, base-within pixel, base-most)

  pub offset-within : (pixel : ℕ) → mag (offset_at w pixel) < base_bound (w 16) (w 17) + 32 * 2 ^ rest_scale (w 16)
  unfolding offset_at
  offset-within pixel = plus (base_bound (w 16) (w 17)) (32 * 2 ^ rest_scale (w 16)) (base_at w offset_part pixel) (scaled 6 (pixel_word w pixel / 1024) (rest_scale (w 16))) (base-within offset_part pixel) (scaled-within 6 _ _ (lit≤ tt))

  pub offset-mag : (pixel : ℕ) → mag (offset_at w pixel) ≤ 1605634
  offset-mag pixel = omega (arith, offset-within pixel, base-most offset_part, power-most (rest_scale (w 16)) (small (w 16)))

  pub k-ta-average-mag : (entry : ℕ) → mag (average_at w entry) < 128
  unfolding average_at
  k-ta-average-mag entry = (stands 8 (lit≤ tt)).range (get_or (average_bytes w) entry 0)

  pub alpha-base-within : (pixel : ℕ) → mag (alpha_base_at w pixel) < base_bound (w 32) (w 33)
  unfolding alpha_base_at
  alpha-base-within pixel = base-within alpha_part pixel

  pub alpha-base-mag : (pixel : ℕ) → mag (alpha_base_at w pixel) ≤ 557057
  unfolding alpha_base_at
  alpha-base-mag pixel = base-mag alpha_part pixel

  pub alpha-rest-within : (pixel : ℕ) → mag (alpha_rest_at w pixel) < 32 * 2 ^ rest_scale (w 32)
  unfolding alpha_rest_at
  alpha-rest-within pixel = scaled-within 6 _ _ (lit≤ tt)

  pub alpha-rest-mag : (pixel : ℕ) → mag (alpha_rest_at w pixel) ≤ 1048576
  alpha-rest-mag pixel = omega (arith, alpha-rest-within pixel, power-most (rest_scale (w 32)) (small (w 32)))

  pub k-ta-sum-within : (pixel : ℕ) → mag (k_ta_sum_at w pixel) < 128 + 4 * 2 ^ rest_scale (w 56)
  unfolding k_ta_sum_at
  k-ta-sum-within pixel = plus 128 (4 * 2 ^ rest_scale (w 56)) (average_at w (chessboard_at pixel)) (scaled 3 (pixel_word w pixel / 2) (rest_scale (w 56))) (k-ta-average-mag (chessboard_at pixel)) (scaled-within 3 _ _ (lit≤ tt))

  pub k-ta-sum-mag : (pixel : ℕ) → mag (k_ta_sum_at w pixel) ≤ 131201
  k-ta-sum-mag pixel = omega (arith, k-ta-sum-within pixel, power-most (rest_scale (w 56)) (small (w 56)))

-- a whole number below 2 ^ 24 in magnitude fits an f32
pub held : (z : ℤ) → mag z < 16777216 → T (in_float binary32 z)
unfolding in_float
held (pos n) h = le→leb n 0x1000000 (omega arith)
held (negsuc n) h = lt→ltb n 0x1000000 (omega arith)
