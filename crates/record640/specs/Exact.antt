-- Only the range coefficients of a record are rounded: each other f32 is exactly a whole number over a power of two, on every card. Assumes nothing.
use Rattle.std.specs.Prelude.{ℕ, ◌+◌, ◌/◌, ◌%◌, ◌^◌, ◌<◌, ◌≡◌, List, [], ◌∷◌, ℤ, pos, ◌+ℤ◌, ◌-ℤ◌, ◌*ℤ◌, get_or, Float, Some}
use Rattle.std.specs.Float.{nan}
use Rattle.std.specs.Float.Ieee.{neg}
use Rattle.lists.specs.All.{All}
use Rattle.floats.specs.Constants.{one}
use Rattle.floats.specs.Floats.{over, ◌⊕◌}
use Rattle.floats.specs.Exact.{Exactly}
use Rattle.util.specs.Fields.{signed}
use Rattle.util.specs.Words.{word_at}
use Rattle.map640.specs.declared.Field.{Field}
use Rattle.map640.specs.declared.Field.TheVariants.{OffsetScales, AlphaScales, Gain, VPtat25, Ptat, KV, Access, AlphaCp, KCp, KSTa, KSTo, Corners}
use Rattle.map640.specs.Map.{word_of}
use Rattle.record640.specs.Record.{k_v_scale, k_ta_scale, calibration_of}

-- a claim: the f32 is exactly the whole number divided by 2 to the power
pub data Number : Type 0 where
  number : Float → ℤ → ℕ → Number

-- that the claim is true
abbrev pub IsExact : Number → Type 0
IsExact (number x z e) = Exactly x z e

-- ---- the f32 numbers of a record, by the words of the card

-- the first word of a field
abbrev word : (ℕ → ℕ) → Field → ℕ
word w field = w (word_of field 0)

-- the ratio of alpha_CP, times 2 ^ 7
abbrev pub ratio : (ℕ → ℕ) → ℤ
ratio w = signed 6 (word w AlphaCp / 2 ^ 10)

-- access correction three, times 2 ^ 3
abbrev pub three : (ℕ → ℕ) → ℤ
three w = signed 5 (word w Access / 2 ^ 11)

-- access correction two, times 2
abbrev pub two : (ℕ → ℕ) → ℤ
two w = signed 5 (word w Access / 2 ^ 6)

-- the single numbers
abbrev pub singles : (ℕ → ℕ) → ℕ → List Number
singles w range =
    let r = calibration_of w range in
    number r.k_v_ptat (signed 6 (word w Ptat / 2 ^ 10)) 12
    ∷ number r.k_t_ptat (signed 10 (word w Ptat)) 3
    ∷ number r.v_ptat_25 (signed 16 (word w VPtat25)) 0
    ∷ number r.alpha_ptat (pos (word w OffsetScales / 2 ^ 12 / 4 + 8)) 0
    ∷ number r.gain (signed 16 (word w Gain)) 0
    ∷ number r.k_s_ta (signed 8 (word w KSTa / 2 ^ 8)) 13
    ∷ number r.k_v_cp (signed 8 (word w KCp / 2 ^ 8)) (k_v_scale w)
    ∷ number r.k_ta_cp (signed 8 (word w KCp)) (k_ta_scale w)
    ∷ number r.access_cp (signed 6 (word w Access)) 4
    ∷ []

-- the numbers of each range (K_sTo), of each chessboard entry (K_V) and of each subpage (alpha_CP)
abbrev pub lists : (ℕ → ℕ) → ℕ → List Number
lists w range =
    let r = calibration_of w range in
    let slope : ℕ → ℤ → Number = λ k z. number (get_or r.k_s_to k nan) z (8 + word w Corners % 16) in
    let k_v : ℕ → ℤ → Number = λ k z. number (get_or r.k_v k nan) z (k_v_scale w) in
    let raw = pos (word w AlphaCp % 2 ^ 10) in
    let scale = word w AlphaScales / 2 ^ 12 in
    slope 0 (signed 8 (word w KSTo))
    ∷ slope 1 (signed 8 (word w KSTo / 2 ^ 8))
    ∷ slope 2 (signed 8 (w (word_of KSTo 1)))
    ∷ slope 3 (signed 8 (w (word_of KSTo 1) / 2 ^ 8))
    ∷ k_v 0 (signed 4 (word w KV / 2 ^ 12))
    ∷ k_v 1 (signed 4 (word w KV / 2 ^ 8))
    ∷ k_v 2 (signed 4 (word w KV / 2 ^ 4))
    ∷ k_v 3 (signed 4 (word w KV))
    ∷ number (get_or r.alpha_cp 0 nan) raw (27 + scale)
    ∷ number (one ⊕ over (ratio w) 7) (pos 128 +ℤ ratio w) 7
    ∷ number (get_or r.alpha_cp 1 nan) (raw *ℤ (pos 128 +ℤ ratio w)) (34 + scale)
    ∷ []

-- the entries of the access pattern -A, B, -C, A, -B, C. A negated zero is -0, so the claims on entries 0, 2 and 4 are about their negation.
abbrev pub pattern : (ℕ → ℕ) → ℕ → List Number
pattern w range =
    let entry : ℕ → Float = λ k. get_or (calibration_of w range).access_pattern k nan in
    let b = pos 4 *ℤ two w -ℤ three w in
    let c = pos 4 *ℤ two w +ℤ three w in
    number (neg (entry 0)) (three w) 3
    ∷ number (entry 1) b 3
    ∷ number (neg (entry 2)) c 3
    ∷ number (entry 3) (three w) 3
    ∷ number (neg (entry 4)) b 3
    ∷ number (entry 5) c 3
    ∷ []

-- ---- the claim

-- all of these claims hold
pub record Exact (w : ℕ → ℕ) (range : ℕ) : Type 0 where
  pub singles : All IsExact (singles w range)
  pub lists : All IsExact (lists w range)
  pub pattern : All IsExact (pattern w range)
  -- the gradient, if there is one
  pub gradient : (x : Float) → (calibration_of w range).temperature_gradient_coefficient ≡ Some x → Exactly x (signed 8 (word w KSTa)) 5

-- the claim for all words of 16 bits
abbrev pub Claim : Type 0
Claim = (w : ℕ → ℕ) → ((k : ℕ) → w k < 2 ^ 16) → (range : ℕ) → Exact w range

-- the claim for every image of bytes
abbrev pub OfImage : Type 0
OfImage = (image : List ℕ) → ((i : ℕ) → get_or image i 0 < 2 ^ 8) → (range : ℕ) → Exact (word_at image) range
