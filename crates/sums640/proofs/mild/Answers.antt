-- `sums640::mild` meets its contract: it tests the four bounds. Assumes nothing.
use borrow.Author.Tests.{leb-true}
use mathlib.Core.Path.{◌≡◌, ap, ap₂}
use Prim.Native.Nat.{ℕ, ◌+◌, ◌*◌, ◌^◌}
use native.Mathlib.Omega.{arith}
use Rattle.util.specs.Words.{word_at}
use Rattle.sums640.specs.Sums.{rest_scale}
use Rattle.sums640.specs.Inner.{base_bound}
use Rattle.sums640.proofs.Bounds.{none}
use Rattle.sums640.proofs.mild.Goals as goal

-- equal words have equal powers of the scale of rests
power-of : (a b : ℕ) → a ≡ b → 2 ^ rest_scale a ≡ 2 ^ rest_scale b
power-of a b = ap (λ (n : ℕ). 2 ^ rest_scale n)

pub returns : goal.returns
returns c e =
    let read5 = c in
    let read3 = read5 in
    let read1 = read3 in
    none (word_at read1.args.image.now)
    (omega (arith, ap₂ base_bound read1.word_at-offset_scales.ensures read3.word_at-offset_average.ensures, power-of _ _ read1.word_at-offset_scales.ensures))
    (omega (arith, ap₂ base_bound read3.word_at-alpha_scales.ensures read5.word_at-alpha_average.ensures))
    (omega (arith, power-of _ _ read3.word_at-alpha_scales.ensures))
    (omega (arith, leb-true (128 + 4 * c.power-3.result) 32768 e, power-of _ _ read5.word_at-scales.ensures))
