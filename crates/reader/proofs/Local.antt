-- A word depends only on its own two bytes: it stays the same when more bytes come. Assumes nothing.
use Prim.Native.Nat.{ℕ, ◌+◌, ◌*◌, ◌<◌}
use mathlib.Core.Path.{◌≡◌, refl}
use mathlib.Core.List.{List, ◌++◌}
use native.Mathlib.Omega.{arith}
use lib.ListN.{length, get_or-append}
use Rattle.util.specs.Words.{word_at}
use Rattle.card.specs.Card.{read_at, damaged_at}

module _ (l more : List ℕ) (w : ℕ) (h : w * 2 + 1 < length l) where
  pub word_more : word_at (l ++ more) w ≡ word_at l w
  unfolding word_at
  word_more = rw (get_or-append l more 0 (w * 2) (omega arith), get_or-append l more 0 (w * 2 + 1) h) refl

  pub damaged-more : damaged_at (l ++ more) w ≡ damaged_at l w
  unfolding damaged_at read_at
  damaged-more = rw word_more refl
