-- `record640::read_calibration` meets its contract: it joins the numbers of the record. Assumes nothing.
use mathlib.Core.Path.{◌≡◌, ap, ◌∙◌}
use mathlib.Core.List.{List}
use Prim.Native.Nat.{ℕ}
use lib.IntN.{ℤ}
use lib.Ieee.{Float}
use mir.Syntax.{w16}
use mir.Facts.{to_z-of_z}
use Rattle.std.specs.Prelude.{Option}
use Rattle.mlx90640.specs.declared.Corrections.{Corrections}
use Rattle.mlx90640.specs.Corrections.{corrections_of, pattern_of}
use Rattle.record640.specs.declared.Calibration.{Calibration}
use Rattle.record640.specs.Record.{k_v_dd_of, v_dd25_of, alpha_ptat_of, whole_of, resolution_of, offset_cps_of, gradient_of, calibration_of}
use Rattle.record640.proofs.read_calibration.Goals as goal

-- two records with equal fields are equal
joined : {a0 b0 : ℤ} {a1 b1 : ℤ} {a2 b2 : ℕ} {a3 b3 : Float} {a4 b4 : Float} {a5 b5 : Float} {a6 b6 : Float} {a7 b7 : Float} {a8 b8 : Float} {a9 b9 : List ℤ} {a10 b10 : List Float} {a11 b11 : List Float} {a12 b12 : List Float} {a13 b13 : List ℤ} {a14 b14 : Float} {a15 b15 : Float} {a16 b16 : Option Float} {a17 b17 : List Float} {a18 b18 : List Float} {a19 b19 : Float} → a0 ≡ b0 → a1 ≡ b1 → a2 ≡ b2 → a3 ≡ b3 → a4 ≡ b4 → a5 ≡ b5 → a6 ≡ b6 → a7 ≡ b7 → a8 ≡ b8 → a9 ≡ b9 → a10 ≡ b10 → a11 ≡ b11 → a12 ≡ b12 → a13 ≡ b13 → a14 ≡ b14 → a15 ≡ b15 → a16 ≡ b16 → a17 ≡ b17 → a18 ≡ b18 → a19 ≡ b19
    → ◌≡◌ {A = Calibration} record { k_v_dd = a0; v_dd_25 = a1; resolution = a2; k_v_ptat = a3; k_t_ptat = a4; v_ptat_25 = a5; alpha_ptat = a6; gain = a7; k_s_ta = a8; corner_temperatures = a9; k_s_to = a10; range_coefficients = a11; alpha_cp = a12; offset_reference_cp = a13; k_v_cp = a14; k_ta_cp = a15; temperature_gradient_coefficient = a16; k_v = a17; access_pattern = a18; access_cp = a19 } record { k_v_dd = b0; v_dd_25 = b1; resolution = b2; k_v_ptat = b3; k_t_ptat = b4; v_ptat_25 = b5; alpha_ptat = b6; gain = b7; k_s_ta = b8; corner_temperatures = b9; k_s_to = b10; range_coefficients = b11; alpha_cp = b12; offset_reference_cp = b13; k_v_cp = b14; k_ta_cp = b15; temperature_gradient_coefficient = b16; k_v = b17; access_pattern = b18; access_cp = b19 }
joined e0 e1 e2 e3 e4 e5 e6 e7 e8 e9 e10 e11 e12 e13 e14 e15 e16 e17 e18 e19 = rw (e0, e1, e2, e3, e4, e5, e6, e7, e8, e9, e10, e11, e12, e13, e14, e15, e16, e17, e18, e19)

pub returns : goal.returns
unfolding calibration_of
returns c =
    joined
    (to_z-of_z {w = w16} (record { sfits = c.k_v_dd.type_inv }) ∙ c.k_v_dd.ensures ∙ ap k_v_dd_of c.word_at-supply.ensures)
    (to_z-of_z {w = w16} (record { sfits = c.v_dd_25.type_inv }) ∙ c.v_dd_25.ensures ∙ ap v_dd25_of c.word_at-supply.ensures)
    (c.resolution.ensures ∙ ap resolution_of c.word_at-2.ensures)
    c.k_v_ptat.ensures
    c.k_t_ptat.ensures
    (c.whole.ensures ∙ ap whole_of c.word_at-3.ensures)
    (c.alpha_ptat.ensures ∙ ap alpha_ptat_of c.word_at-4.ensures)
    (c.whole-2.ensures ∙ ap whole_of c.word_at-5.ensures)
    c.k_s_ta.ensures
    c.corners_of.ensures
    c.k_s_to.ensures
    c.coefficients.ensures
    c.alpha_cp.ensures
    (c.offset_cp.ensures ∙ ap offset_cps_of c.word_at-6.ensures)
    c.k_v_cp.ensures
    c.k_ta_cp.ensures
    (c.gradient.ensures ∙ ap gradient_of c.word_at-7.ensures)
    c.k_v.ensures
    (c.interleave_pattern.ensures ∙ ap pattern_of ((c.access_pattern_corrections-corrections.ensures ∙ ap corrections_of c.word_at.ensures)))
    (ap (λ (k : Corrections). k.chess_1) ((c.access_pattern_corrections-corrections.ensures ∙ ap corrections_of c.word_at.ensures)))
