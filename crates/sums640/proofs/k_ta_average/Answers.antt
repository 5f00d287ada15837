-- `sums640::k_ta_average` meets its contract: the byte as a signed number of 8 bits. Assumes nothing.
use mathlib.Core.Path.{◌≡◌, ap, ◌∙◌}
use native.Mathlib.Omega.{arith}
use lib.Dec.{lit≤}
use lib.IntN.{ℤ}
use mir.Syntax.{w16}
use mir.Val.{to_z, of_z}
use Rattle.util.specs.Words.{word_at}
use Rattle.util.specs.Fields.{signed}
use Rattle.util.proofs.Width.{signed_back}
use Rattle.util.proofs.Range.{back32}
use Rattle.sums640.specs.Sums.{average_at}
use Rattle.sums640.proofs.Range.{k-ta-average-mag}
use Rattle.sums640.proofs.k_ta_average.Goals as goal
use Rattle.sums640.proofs.k_ta_average.Goals.{After-i16_from_bits}

abbrev average-of : After-i16_from_bits → ℤ
average-of c = let a = c.args in average_at (word_at a.image.now) a.entry

bits_is : (c : After-i16_from_bits) → to_z w16 (of_z w16 c.i16_from_bits.result) ≡ average-of c
unfolding average_at
bits_is c =
    ap (λ (z : ℤ). to_z w16 (of_z w16 z)) (c.i16_from_bits.ensures ∙ ap (signed 8) (c.wide.ensures ∙ c.average_byte-byte.ensures)) ∙ signed_back 8 _ (lit≤ tt) (lit≤ tt)

pub returns : goal.returns
returns c = rw (bits_is c, back32 (average-of c) (omega (arith, (let a = c.args in k-ta-average-mag (word_at a.image.now) a.entry))))
