-- What stands in each word after one is set. Assumes nothing.
use Prim.Native.Nat.{ℕ, ◌+◌, ◌*◌, ◌/◌, ◌%◌, ◌<◌}
use mathlib.Core.Path.{◌≡◌, ◌∙◌}
use mathlib.Core.List.{List}
use native.Mathlib.Omega.{arith}
use lib.ListN.{length, get_or, set, length-set}
use lib.Seq.{get_or-set_same, get_or-set_other}
use Rattle.util.specs.Words.{word_at}
use Rattle.burn.specs.Burn.{word_set}

module _ (l : List ℕ) (w v : ℕ) where
  pub length-word : length (word_set l w v) ≡ length l
  unfolding word_set
  length-word = length-set (set l (w * 2) (v / 256)) (w * 2 + 1) (v % 256) ∙ length-set l (w * 2) (v / 256)

  -- a byte of another word
  pub byte-other : (i : ℕ) → (i ≡ w * 2 → ⊥) → (i ≡ w * 2 + 1 → ⊥) → get_or (word_set l w v) i 0 ≡ get_or l i 0
  unfolding word_set
  byte-other i f g =
      get_or-set_other (set l (w * 2) (v / 256)) (w * 2 + 1) i (v % 256) 0 g ∙ get_or-set_other l (w * 2) i (v / 256) 0 f

  -- the two bytes of the word
  pub byte_high : w * 2 + 1 < length l → get_or (word_set l w v) (w * 2) 0 ≡ v / 256
  unfolding word_set
  byte_high h =
      get_or-set_other (set l (w * 2) (v / 256)) (w * 2 + 1) (w * 2) (v % 256) 0 (λ e. omega arith)
      ∙ get_or-set_same l (w * 2) (v / 256) 0 (omega arith)

  pub byte_low : w * 2 + 1 < length l → get_or (word_set l w v) (w * 2 + 1) 0 ≡ v % 256
  unfolding word_set
  byte_low h = get_or-set_same (set l (w * 2) (v / 256)) (w * 2 + 1) (v % 256) 0 (rw (length-set l (w * 2) (v / 256)) h)

  pub word-other : (x : ℕ) → (x ≡ w → ⊥) → word_at (word_set l w v) x ≡ word_at l x
  unfolding word_at
  word-other x f =
      rw (byte-other (x * 2) (λ e. f (omega arith)) (λ e. omega arith), byte-other (x * 2 + 1) (λ e. omega arith) (λ e. f (omega arith)))

  pub word_same : w * 2 + 1 < length l → word_at (word_set l w v) w ≡ v
  unfolding word_at
  word_same h = let a = byte_high h in let b = byte_low h in omega arith
