-- `root::fourth_root` meets its contract: each return is `root` at x's bits. Assumes nothing.
use Rattle.std.proofs.Common.{◌≡◌, ◌%◌, ◌≤◌, not, T, sym, ap, ◌∙◌, subst, le_of_suc-le-suc, lt_of_not-le, arith, T_not, lt-ltb}
use lib.Ieee.{Float, nan, binary32, fits, is_nan, of_bits, to_bits}
use lib.Ieee.Bits.{of_bits-to_bits, to_bits-lt, nan_bits_is, nan_bits_above}
use lib.Ieee.Compare.{differs_from_itself}
use Rattle.floats.proofs.Nan.{same-no-nan, zero_by_zero, number-below}
use Rattle.floats.proofs.Power.{infinity-bits}
use Rattle.root.specs.Root.{root}
use Rattle.root.proofs.Values.{root-nan, root-positive, root-negative, root-zero, root-inf, zero_bits}
use Rattle.root.proofs.fourth_root.Goals as goal

through : (x v : Float) → T (fits binary32 x) → root (of_bits binary32 (to_bits binary32 x)) ≡ v → v ≡ root x
through x v h e = sym e ∙ ap root (of_bits-to_bits binary32 x h)

-- the bits of a float that is not NaN, without the sign, are not above infinity's
below_nan : (x : Float) → T (fits binary32 x) → T (not (is_nan x)) → to_bits binary32 x % 0x80000000 ≤ 0x7F800000
below_nan x h n =
    le_of_suc-le-suc (lt_of_not-le (λ g. T_not (is_nan x) n (subst T (sym (lt-ltb 0x7F800000 (to_bits binary32 x % 0x80000000) g) ∙ sym (nan_bits_above binary32 (to_bits binary32 x)) ∙ nan_bits_is binary32 (to_bits binary32 x) ∙ ap is_nan (of_bits-to_bits binary32 x h)) tt)))

pub returns-then-x : goal.returns-then-x
returns-then-x c = zero_by_zero ∙ sym (root-nan _ (differs_from_itself _ (subst T (sym c.if-x.true) tt)))

pub float_to_bits-b : goal.float_to_bits-b
float_to_bits-b c = same-no-nan _ c.if-x.false

pub returns-then-b-eq0 : goal.returns-then-b-eq0
returns-then-b-eq0 c =
    zero_bits ∙ through _ _ ((subst T (sym c.well_formed.0.1) tt)) (root-zero _ (to_bits-lt binary32 _ ((subst T (sym c.well_formed.0.1) tt))) c.if-b-eq0.true)

pub float_from_bits-result : goal.float_from_bits-result
float_from_bits-result c = number-below _ (omega (arith, c.fourth_positive.ensures.1))

pub returns-then-b-lt2139095040 : goal.returns-then-b-lt2139095040
returns-then-b-lt2139095040 c =
    let st = c in
    let x : Float = st.args.x in
    through x _ ((subst T (sym st.well_formed.0.1) tt)) (root-positive (to_bits binary32 x) (omega arith) (omega arith) ∙ ap (of_bits binary32) (sym c.fourth_positive.ensures.0))

pub returns-then-b-eq2139095040 : goal.returns-then-b-eq2139095040
returns-then-b-eq2139095040 c =
    let st = c in
    infinity-bits ∙ through _ _ ((subst T (sym st.well_formed.0.1) tt)) (root-inf _ (to_bits-lt binary32 _ ((subst T (sym st.well_formed.0.1) tt))) (omega arith))

pub returns : goal.returns
returns c =
    let st = c in
    let x : Float = st.args.x in
    let l = below_nan x ((subst T (sym st.well_formed.0.1) tt)) (same-no-nan x c.if-x.false) in
    zero_by_zero ∙ through x nan ((subst T (sym st.well_formed.0.1) tt)) (root-negative (to_bits binary32 x) (omega (arith, to_bits-lt binary32 x ((subst T (sym st.well_formed.0.1) tt)))) (omega arith) (omega arith))

pub float_from_bits-result-then-b-eq2139095040 : goal.float_from_bits-result-then-b-eq2139095040
float_from_bits-result-then-b-eq2139095040 c = number-below 0x7F800000 (omega arith)
