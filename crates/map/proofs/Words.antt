-- The word numbers of each field, computed from the map. Assumes nothing.
use Prim.Native.Nat.{ℕ, zero, suc, ◌+◌, ◌-◌, ◌<◌}
use mathlib.Core.Path.{◌≡◌, refl, ap, ◌∙◌}
use mathlib.Core.Bool.{Bool, false, ◌&&◌}
use mathlib.Core.List.{List, [], ◌∷◌}
use native.Mathlib.Omega.{arith}
use lib.Dec.{T, eqb, ltb, eqb→eq}
use borrow.Author.Tests.{lt-ltb, le-ltb}
use Rattle.lists.specs.Pick.{pick}
use Rattle.map.specs.declared.Field.{Field}
use Rattle.map.specs.declared.Field.TheVariants.{OffsetScale, OffsetAverage, KTaAverage, KTaScale, KVAverage, KVScale, RowScale, RowMaximum, KSTa, Emissivity, Gain, VDd25, KVDd, VPtat25, KTPtat, KVPtat, AlphaPtat, AlphaCp, AlphaCpScale, OffsetCp, KTaCp, KVCp, Gradient, KSToScale, KSTo, Corner, Offset0, Alpha, KPixel, Offset1}
use Rattle.map.specs.Map.{frame_pixels, Span, upto, spans, words_of, word_in, word_of}
use Rattle.map.proofs.Spans.{start, end, both_left, both_right}

-- the first word number of each field that has few words
pub record Places : Type 0 where
  pub offset_scale : word_of OffsetScale 0 ≡ 16
  pub offset_average : (word_of OffsetAverage 0 ≡ 17) × (word_of OffsetAverage 1 ≡ 18)
  pub k_ta_average : word_of KTaAverage 0 ≡ 21
  pub k_ta_scale : word_of KTaScale 0 ≡ 22
  pub k_v_average : word_of KVAverage 0 ≡ 23
  pub k_v_scale : word_of KVScale 0 ≡ 24
  pub k_s_ta : word_of KSTa 0 ≡ 34
  pub emissivity : word_of Emissivity 0 ≡ 35
  pub gain : (word_of Gain 0 ≡ 36) × (word_of Gain 1 ≡ 37)
  pub v_dd_25 : word_of VDd25 0 ≡ 38
  pub k_v_dd : word_of KVDd 0 ≡ 39
  pub v_ptat_25 : (word_of VPtat25 0 ≡ 40) × (word_of VPtat25 1 ≡ 41)
  pub k_t_ptat : word_of KTPtat 0 ≡ 42
  pub k_v_ptat : word_of KVPtat 0 ≡ 43
  pub alpha_ptat : word_of AlphaPtat 0 ≡ 44
  pub alpha_cp : word_of AlphaCp 0 ≡ 45
  pub alpha_cp_scale : word_of AlphaCpScale 0 ≡ 46
  pub offset_cp : (word_of OffsetCp 0 ≡ 47) × (word_of OffsetCp 1 ≡ 48)
  pub k_ta_cp : word_of KTaCp 0 ≡ 49
  pub k_v_cp : word_of KVCp 0 ≡ 50
  pub gradient : word_of Gradient 0 ≡ 51
  pub k_s_to_scale : word_of KSToScale 0 ≡ 52

pub places : Places
unfolding word_of spans
places = record {
  offset_scale = refl;
  offset_average = (refl, refl);
  k_ta_average = refl;
  k_ta_scale = refl;
  k_v_average = refl;
  k_v_scale = refl;
  k_s_ta = refl;
  emissivity = refl;
  gain = (refl, refl);
  v_dd_25 = refl;
  k_v_dd = refl;
  v_ptat_25 = (refl, refl);
  k_t_ptat = refl;
  k_v_ptat = refl;
  alpha_ptat = refl;
  alpha_cp = refl;
  alpha_cp_scale = refl;
  offset_cp = (refl, refl);
  k_ta_cp = refl;
  k_v_cp = refl;
  gradient = refl;
  k_s_to_scale = refl;
}

-- the words of K_sTo 1 to 5, then of three corners, each followed by its K_sTo
pub ranges : (word_of KSTo 0 ≡ 53) × (word_of KSTo 1 ≡ 54) × (word_of KSTo 2 ≡ 55) × (word_of KSTo 3 ≡ 56) × (word_of KSTo 4 ≡ 57)
    × (word_of Corner 0 ≡ 58) × (word_of KSTo 5 ≡ 59) × (word_of Corner 1 ≡ 60) × (word_of KSTo 6 ≡ 61) × (word_of Corner 2 ≡ 62) × (word_of KSTo 7 ≡ 63)
unfolding word_of spans
ranges = (refl, refl, refl, refl, refl, refl, refl, refl, refl, refl, refl)

-- ---- fields of many words

-- whether span j is of the field and no span before it is
abbrev first_at : List Span → ℕ → Field → ℕ → Bool
first_at [] from field j = false
first_at (upto n r ∷ es) from field zero = eqb (words_of field from n r) (n - from)
first_at (upto n r ∷ es) from field (suc j) = eqb (words_of field from n r) 0 && first_at es n field j

-- if so, word k of the field is word k of that span
in_span : (es : List Span) (from : ℕ) (field : Field) (j k : ℕ) → T (first_at es from field j) → k < end es j - start from es j → word_in es from field k ≡ start from es j + k
in_span [] from field j k t h = absurd t
in_span (upto n r ∷ es) from field zero k t h =
    let e = eqb→eq (words_of field from n r) (n - from) t in
    ap (λ (b : Bool). pick b (from + k) (word_in es n field (k - words_of field from n r))) (lt-ltb k (words_of field from n r) (omega arith))
in_span (upto n r ∷ es) from field (suc j) k t h =
    let e = eqb→eq (words_of field from n r) 0 (both_left (eqb (words_of field from n r) 0) (first_at es n field j) t) in
    ap (λ (m : ℕ). pick (ltb k m) (from + k) (word_in es n field (k - m))) e
    ∙ ap (λ (b : Bool). pick b (from + k) (word_in es n field (k - 0))) (le-ltb k 0 (omega arith))
    ∙ ap (word_in es n field) (let z : k - 0 ≡ k = omega arith in z)
    ∙ in_span es n field j k (both_right (eqb (words_of field from n r) 0) (first_at es n field j) t) h

pub row-scale-at : (k : ℕ) → k < 3 → word_of RowScale k ≡ 25 + k
unfolding word_of spans
row-scale-at k h = in_span spans 0 RowScale 8 k tt h

pub row-maximum-at : (k : ℕ) → k < 6 → word_of RowMaximum k ≡ 28 + k
unfolding word_of spans
row-maximum-at k h = in_span spans 0 RowMaximum 9 k tt h

pub offset0-at : (k : ℕ) → k < frame_pixels → word_of Offset0 k ≡ 64 + k
unfolding word_of spans
offset0-at k h = in_span spans 0 Offset0 33 k tt h

pub alpha-at : (k : ℕ) → k < frame_pixels → word_of Alpha k ≡ 256 + k
unfolding word_of spans
alpha-at k h = in_span spans 0 Alpha 34 k tt h

pub k-pixel-at : (k : ℕ) → k < frame_pixels → word_of KPixel k ≡ 448 + k
unfolding word_of spans
k-pixel-at k h = in_span spans 0 KPixel 35 k tt h

pub offset1-at : (k : ℕ) → k < frame_pixels → word_of Offset1 k ≡ 640 + k
unfolding word_of spans
offset1-at k h = in_span spans 0 Offset1 36 k tt h
