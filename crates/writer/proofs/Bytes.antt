-- Words as bytes: the step of a loop that writes them, and that each word can be read back. Assumes nothing.
use Prim.Native.Nat.{ℕ, ◌+◌, ◌*◌, ◌/◌, ◌%◌, ◌≤◌, ◌<◌}
use mathlib.Core.Path.{◌≡◌, sym, ap, ap₂, ◌∙◌, subst}
use mathlib.Core.Bool.{true}
use mathlib.Core.List.{List}
use native.Mathlib.Omega.{arith}
use lib.Dec.{eqb}
use lib.ListN.{length, set}
use Rattle.lists.specs.Pick.{pick}
use Rattle.lists.specs.Written.{filled}
use Rattle.lists.proofs.Written.{written_at}
use Rattle.lists.proofs.Fill.{Filling, one_more}
use Rattle.util.specs.Words.{big_endian, word_at}
use Rattle.map.specs.Map.{card_words, image_bytes}
use Rattle.writer.specs.Write.{byte_of}

module _ (words : ℕ → ℕ) where
  byte : (k w p : ℕ) → k / 2 ≡ w → k % 2 ≡ p → byte_of words k ≡ pick (eqb p 0) (words w / 256) (words w % 256)
  byte k w p e f = ap₂ (λ (v q : ℕ). pick (eqb q 0) (words v / 256) (words v % 256)) e f

  pub high : (w : ℕ) → byte_of words (w * 2) ≡ words w / 256
  high w = byte (w * 2) w 0 (omega arith) (omega arith)

  pub low : (w : ℕ) → byte_of words (w * 2 + 1) ≡ words w % 256
  low w = byte (w * 2 + 1) w 1 (omega arith) (omega arith)

  -- the step for one more word
  pub word_more : {d₀ d : List ℕ} (w v : ℕ) → Filling (byte_of words) image_bytes d₀ d (w * 2) → w < card_words → v ≡ words w
      → Filling (byte_of words) image_bytes d₀ (set (set d (w * 2) (v / 256)) (w * 2 + 1) (v % 256)) ((w + 1) * 2)
  word_more {d₀ = d₀} {d = d} w v r h e =
      let n : w * 2 + 1 + 1 ≡ (w + 1) * 2 = omega arith in
      subst (Filling (byte_of words) image_bytes d₀ (set (set d (w * 2) (v / 256)) (w * 2 + 1) (v % 256))) n
      (one_more (byte_of words) (one_more (byte_of words) r (omega arith) (ap (λ (x : ℕ). x / 256) e ∙ sym (high w))) (omega arith)
      (ap (λ (x : ℕ). x % 256) e ∙ sym (low w)))

  -- each word can be read back from the bytes
  pub word-there : (image : List ℕ) → image_bytes ≤ length image → (w : ℕ) → w < card_words → word_at (filled (byte_of words) image_bytes image) w ≡ words w
  unfolding word_at
  word-there image l w h =
      ap₂ big_endian
      (written_at (λ (k : ℕ). true) (byte_of words) image_bytes image (w * 2) 0 l (omega arith) ∙ high w)
      (written_at (λ (k : ℕ). true) (byte_of words) image_bytes image (w * 2 + 1) 0 l (omega arith) ∙ low w)
      ∙ (let e : words w / 256 * 256 + words w % 256 ≡ words w = omega arith in e)
