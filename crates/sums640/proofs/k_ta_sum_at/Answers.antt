-- `sums640::k_ta_sum_at` meets its contract: it adds the average and the rest. Assumes nothing.
use mathlib.Core.Path.{◌≡◌, ap, ap₂, ◌∙◌}
use Prim.Native.Nat.{ℕ, ◌+◌, ◌/◌, ◌<◌}
use native.Mathlib.Nat.{mod-lt}
use native.Mathlib.Omega.{arith}
use lib.Dec.{lit≤}
use lib.IntN.{ℤ, pos, ◌+ℤ◌}
use lib.ListN.{get_or}
use mir.Syntax.{w32}
use mir.Val.{to_z, of_z}
use mir.Facts.{to_z-of_z}
use Rattle.mlx90640.specs.Pixels.{chessboard_at}
use Rattle.mlx90640.proofs.Entries.{chessboard-lt}
use Rattle.util.specs.Words.{word_at}
use Rattle.util.proofs.Range.{back32}
use Rattle.sums640.specs.Sums.{scaled, rest_scale, pixel_word, average_at, k_ta_sum_at}
use Rattle.sums640.proofs.Range.{scaled-mag, k-ta-average-mag}
use Rattle.sums640.proofs.Shared as shared
use borrow.Author.Rules.{rules}
use Rattle.sums640.proofs.k_ta_sum_at.Goals as goal

pub overflow_add-chessboard_at : goal.overflow_add-chessboard_at
overflow_add-chessboard_at c = let h : c.chessboard_at.result < 4 = rw c.chessboard_at.ensures (chessboard-lt c.args.pixel) in search rules

pub offset_bounds-shared-chessboard_at : goal.offset_bounds-shared-chessboard_at
offset_bounds-shared-chessboard_at c = let h : c.chessboard_at.result < 4 = rw c.chessboard_at.ensures (chessboard-lt c.args.pixel) in search rules

pub bounds-shared-chessboard_at : goal.bounds-shared-chessboard_at
bounds-shared-chessboard_at c = let h : c.chessboard_at.result < 4 = rw c.chessboard_at.ensures (chessboard-lt c.args.pixel) in let pre = c.requires.pixel_lt_pixel_count.2 in omega arith

pub sum-requires : goal.sum-requires
sum-requires c =
    let h : c.chessboard_at.result < 4 = rw c.chessboard_at.ensures (chessboard-lt c.args.pixel) in
    let e : get_or c.args.shared.now (112 + c.chessboard_at.result) (pos 0) ≡ average_at (word_at c.args.image.now) (chessboard_at c.args.pixel) =
    c.requires.shared.at (112 + c.chessboard_at.result) (omega arith) ∙ shared.average (word_at c.args.image.now) c.chessboard_at.result ∙ ap (average_at (word_at c.args.image.now)) c.chessboard_at.ensures in
    let average : to_z w32 (of_z w32 (get_or c.args.shared.now (112 + c.chessboard_at.result) (pos 0))) ≡ average_at (word_at c.args.image.now) (chessboard_at c.args.pixel) =
    rw e (back32 _ (omega (arith, k-ta-average-mag (word_at c.args.image.now) (chessboard_at c.args.pixel)))) in (
      rw average (omega (arith, k-ta-average-mag (word_at c.args.image.now) (chessboard_at c.args.pixel))),
      rw (to_z-of_z {w = w32} (record { sfits = c.scaled-rest.type_inv }) ∙ c.scaled-rest.ensures ∙ ap₂ (λ (n s : ℕ). scaled 3 (n / 2) (rest_scale s)) c.word_at-word.ensures c.word_at-scales.ensures) (omega (arith, scaled-mag 3 (pixel_word (word_at c.args.image.now) c.args.pixel / 2) (rest_scale (word_at c.args.image.now 56)) (lit≤ tt) (lit≤ tt) (mod-lt (word_at c.args.image.now 56) (omega arith)))),
    )

pub returns : goal.returns
unfolding k_ta_sum_at
returns c =
    let h : c.chessboard_at.result < 4 = rw c.chessboard_at.ensures (chessboard-lt c.args.pixel) in
    let e : get_or c.args.shared.now (112 + c.chessboard_at.result) (pos 0) ≡ average_at (word_at c.args.image.now) (chessboard_at c.args.pixel) =
    c.requires.shared.at (112 + c.chessboard_at.result) (omega arith) ∙ shared.average (word_at c.args.image.now) c.chessboard_at.result ∙ ap (average_at (word_at c.args.image.now)) c.chessboard_at.ensures in
    let average : to_z w32 (of_z w32 (get_or c.args.shared.now (112 + c.chessboard_at.result) (pos 0))) ≡ average_at (word_at c.args.image.now) (chessboard_at c.args.pixel) =
    rw e (back32 _ (omega (arith, k-ta-average-mag (word_at c.args.image.now) (chessboard_at c.args.pixel)))) in
    to_z-of_z {w = w32} (record { sfits = c.sum.type_inv }) ∙ c.sum.ensures ∙ ap₂ (λ (a b : ℤ). a +ℤ b) average (to_z-of_z {w = w32} (record { sfits = c.scaled-rest.type_inv }) ∙ c.scaled-rest.ensures ∙ ap₂ (λ (n s : ℕ). scaled 3 (n / 2) (rest_scale s)) c.word_at-word.ensures c.word_at-scales.ensures)
