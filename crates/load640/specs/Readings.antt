-- The MLX90640's paper, "Readings to try": those of a card that are marked P (proved), as one list. In each, all words that are not named are 0.
-- Assumes nothing.
use Rattle.std.specs.Prelude.{ℕ, ◌≡◌, List, [], ◌∷◌, eqb, ℤ, pos, neg_ℤ, get_or, Float, Option, Some, None}
use Rattle.std.specs.Float.{nan}
use Rattle.lists.specs.Pick.{pick}
use Rattle.floats.specs.Exact.{Exactly}
use Rattle.floats.specs.Constants.{one}
use Rattle.util.specs.Fields.{minus}
use Rattle.record640.specs.declared.Calibration.{Calibration}
use Rattle.sums640.specs.Sums.{offset_at, alpha_base_at, alpha_rest_at, k_ta_sum_at}
use Rattle.record640.specs.Record.{calibration_of}

-- the words w with one of them changed to n
abbrev pub changed : ℕ → ℕ → (ℕ → ℕ) → ℕ → ℕ
changed word n w k = pick (eqb k word) n (w k)

-- the words of a card that is all 0
abbrev pub blank : ℕ → ℕ
blank k = 0

-- the record of a card, with basic range 1
abbrev pub record_of : (ℕ → ℕ) → Calibration
record_of w = calibration_of w 1

-- a reading: a word of the card, then the values that are read from it
-- supply: word 51; K_VDD and V_DD25
-- ambient: word 50; K_VPTAT times 2 ^ 12 and K_TPTAT times 2 ^ 2
-- alphaPtat: word 16; alpha_PTAT
-- access: word 53; A, B and C of the access pattern, each times 2 ^ 3, and the compensation pixel's correction times 2 ^ 4
-- offsetsCp: word 58; offset CP of subpages 0 and 1
-- slopes: words 61 and 63; the raw K_sTo of ranges 0 and 1, and the power of two that divides them
-- corners: word 63; corners 2 and 3
-- gradient: word 60; the gradient
-- rows: word 18, and 34 likewise; the coefficients of rows 0 to 3, as pixels 0, 32, 64 and 96 have them
-- rests: word 64; the rests of pixel 0's offset, alpha and K_Ta
pub data Reading : Type 0 where
  supply : ℕ → ℤ → ℤ → Reading
  ambient : ℕ → ℤ → ℤ → Reading
  alphaPtat : ℕ → ℤ → Reading
  access : ℕ → ℤ → ℤ → ℤ → ℤ → Reading
  offsetsCp : ℕ → ℤ → ℤ → Reading
  slopes : ℕ → ℕ → ℤ → ℤ → ℕ → Reading
  corners : ℕ → ℤ → ℤ → Reading
  gradient : ℕ → Option Float → Reading
  rows : ℕ → ℤ → ℤ → ℤ → ℤ → Reading
  rests : ℕ → ℤ → ℤ → ℤ → Reading

-- what each kind of reading claims
abbrev pub Holds : Reading → Type 0
Holds (supply n k v) = let r = record_of (changed 51 n blank) in (r.k_v_dd ≡ k) × (r.v_dd_25 ≡ v)
Holds (ambient n v t) = let r = record_of (changed 50 n blank) in Exactly r.k_v_ptat v 12 × Exactly r.k_t_ptat t 2
Holds (alphaPtat n z) = Exactly (record_of (changed 16 n blank)).alpha_ptat z 0
Holds (access n a b c one) =
    let r = record_of (changed 53 n blank) in
    let at : ℕ → Float = λ k. get_or r.access_pattern k nan in
    Exactly (at 0) (neg_ℤ a) 3 × Exactly (at 1) b 3 × Exactly (at 2) (neg_ℤ c) 3 × Exactly (at 3) a 3 × Exactly (at 4) (neg_ℤ b) 3 × Exactly (at 5) c 3 × Exactly r.access_cp one 4
Holds (offsetsCp n a b) = (record_of (changed 58 n blank)).offset_reference_cp ≡ a ∷ b ∷ []
Holds (slopes n c a b scale) =
    let k = (record_of (changed 61 n (changed 63 c blank))).k_s_to in
    Exactly (get_or k 0 nan) a scale × Exactly (get_or k 1 nan) b scale
Holds (corners n a b) = (record_of (changed 63 n blank)).corner_temperatures ≡ minus 40 ∷ pos 0 ∷ a ∷ b ∷ []
Holds (gradient n g) = (record_of (changed 60 n blank)).temperature_gradient_coefficient ≡ g
Holds (rows n a b c d) =
    let offset = offset_at (changed 18 n blank) in
    let alpha = alpha_base_at (changed 34 n blank) in
    (offset 0 ≡ a) × (offset 32 ≡ b) × (offset 64 ≡ c) × (offset 96 ≡ d) × (alpha 0 ≡ a) × (alpha 32 ≡ b) × (alpha 64 ≡ c) × (alpha 96 ≡ d)
Holds (rests n a b c) = let w = changed 64 n blank in (offset_at w 0 ≡ a) × (alpha_rest_at w 0 ≡ b) × (k_ta_sum_at w 0 ≡ c)

-- the readings of the paper
abbrev pub readings : List Reading
readings =
    supply 0x9D68 (minus 3168) (minus 13056)
    ∷ supply 0x80FF (minus 4096) (minus 8224)
    ∷ ambient 0x5952 (pos 22) (pos 169)
    ∷ alphaPtat 0x3000 (pos 8)
    ∷ alphaPtat 0x4000 (pos 9)
    ∷ alphaPtat 0xF000 (pos 11)
    ∷ access 0x0841 (pos 1) (pos 3) (pos 5) (pos 1)
    ∷ offsetsCp 0xFBB5 (minus 75) (minus 77)
    ∷ slopes 0x0201 0x0000 (pos 1) (pos 2) 8
    ∷ slopes 0x0201 0x2889 (pos 1) (pos 2) 17
    ∷ corners 0x2889 (pos 160) (pos 320)
    ∷ corners 0xF110 (pos 30) (pos 60)
    ∷ gradient 0xF000 None
    ∷ gradient 0xF020 (Some one)
    ∷ rows 0x4321 (pos 1) (pos 2) (pos 3) (pos 4)
    ∷ rests 0xFFFE (minus 1) (minus 1) (minus 1)
    ∷ rests 0x0011 (pos 0) (pos 1) (pos 0)
    ∷ rests 0x041E (pos 1) (pos 1) (minus 1)
    ∷ []
