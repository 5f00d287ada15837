-- `sums640::offset_at` meets its contract: it adds the base and the rest. Assumes nothing.
use mathlib.Core.Path.{ap₂, ◌∙◌}
use Prim.Native.Nat.{ℕ, ◌/◌}
use native.Mathlib.Nat.{mod-lt}
use native.Mathlib.Omega.{arith}
use lib.Dec.{lit≤}
use lib.IntN.{ℤ, ◌+ℤ◌}
use mir.Syntax.{w32}
use mir.Facts.{to_z-of_z}
use Rattle.util.specs.Words.{word_at}
use Rattle.sums640.specs.Sums.{scaled, rest_scale, pixel_word, offset_part, offset_at}
use Rattle.sums640.proofs.Range.{scaled-mag, base-mag}
use Rattle.sums640.proofs.Shared as shared
use Rattle.sums640.proofs.offset_at.Goals as goal

pub base-requires-clause-pos_bound : goal.base-requires-clause-pos_bound
base-requires-clause-pos_bound c =
    let p = shared.offsets c.requires.shared in
    (shared.row_small p c.args.pixel c.requires.pixel_lt_pixel_count.0, shared.column-small p c.args.pixel c.requires.pixel_lt_pixel_count.0)

pub sum-requires : goal.sum-requires
sum-requires c = (rw ((to_z-of_z {w = w32} (record { sfits = c.base.type_inv }) ∙ c.base.ensures ∙ shared.base-is (shared.offsets c.requires.shared) c.args.pixel c.requires.pixel_lt_pixel_count.0)) (omega (arith, base-mag (word_at c.args.image.now) offset_part c.args.pixel)), rw ((to_z-of_z {w = w32} (record { sfits = c.scaled-rest.type_inv }) ∙ c.scaled-rest.ensures ∙ ap₂ (λ (n s : ℕ). scaled 6 (n / 1024) (rest_scale s)) c.word_at-word.ensures c.word_at-scales.ensures)) (omega (arith, scaled-mag 6 (pixel_word (word_at c.args.image.now) c.args.pixel / 1024) (rest_scale (word_at c.args.image.now 16)) (lit≤ tt) (lit≤ tt) (mod-lt (word_at c.args.image.now 16) (omega arith)))))

pub returns : goal.returns
unfolding offset_at
returns c = to_z-of_z {w = w32} (record { sfits = c.sum.type_inv }) ∙ c.sum.ensures ∙ ap₂ (λ (a b : ℤ). a +ℤ b) ((to_z-of_z {w = w32} (record { sfits = c.base.type_inv }) ∙ c.base.ensures ∙ shared.base-is (shared.offsets c.requires.shared) c.args.pixel c.requires.pixel_lt_pixel_count.0)) ((to_z-of_z {w = w32} (record { sfits = c.scaled-rest.type_inv }) ∙ c.scaled-rest.ensures ∙ ap₂ (λ (n s : ℕ). scaled 6 (n / 1024) (rest_scale s)) c.word_at-word.ensures c.word_at-scales.ensures))
