-- The image during a loop that mends word after word: the words below the current one are mended. Assumes nothing.
use Prim.Native.Nat.{ℕ, ◌+◌, ◌*◌, ◌/◌, ◌%◌}
use mathlib.Core.Path.{◌≡◌, refl, sym, ap, ap₂, ◌∙◌}
use mathlib.Core.Bool.{Bool, true, false}
use mathlib.Core.List.{List}
use native.Mathlib.Omega.{arith}
use lib.ListN.{length, set}
use Rattle.lists.specs.Pick.{pick}
use Rattle.lists.specs.Written.{written}
use Rattle.lists.proofs.Written.{stored, skipped, written-past, length-written}
use Rattle.util.specs.Words.{big_endian, word_at}
use Rattle.writer.specs.Write.{byte_of}
use Rattle.writer.proofs.Bytes.{high, low}
use Rattle.scrub.specs.Scrub.{mended_at, code_at}
use Rattle.scrub.specs.Inner.{word_mended}
use Rattle.scrub.proofs.Mended.{same-mended, same_code}

module _ (image : List ℕ) where
  abbrev pub touch : ℕ → Bool
  touch k = mended_at image (k / 2)

  abbrev pub bytes : ℕ → ℕ
  bytes = byte_of (code_at image)

  abbrev pub up_to : ℕ → List ℕ
  up_to word = written touch bytes (word * 2) image

  pub start : image ≡ up_to 0
  unfolding written
  start = refl

  pub as_long : (word : ℕ) → length (up_to word) ≡ length image
  as_long word = length-written touch bytes (word * 2) image

  -- the current word is still as it was
  pub not_yet : (word : ℕ) → word_at (up_to word) word ≡ word_at image word
  unfolding word_at
  not_yet word =
      ap₂ big_endian (written-past touch bytes (word * 2) image (word * 2) 0 (omega arith))
      (written-past touch bytes (word * 2) image (word * 2 + 1) 0 (omega arith))

  module _ (word : ℕ) where
    high-touch : touch (word * 2) ≡ mended_at image word
    high-touch = ap (mended_at image) (omega arith)

    low-touch : touch (word * 2 + 1) ≡ mended_at image word
    low-touch = ap (mended_at image) (omega arith)

    next : written touch bytes (word * 2 + 1 + 1) image ≡ up_to (word + 1)
    next = ap (λ (n : ℕ). written touch bytes n image) (let e : word * 2 + 1 + 1 ≡ (word + 1) * 2 = omega arith in e)

    abbrev code : ℕ
    code = code_at image word

    by-test : (b : Bool) → mended_at image word ≡ b
        → pick b (set (set (up_to word) (word * 2) (code / 256)) (word * 2 + 1) (code % 256)) (up_to word) ≡ up_to (word + 1)
    by-test true e =
        sym (stored touch bytes (word * 2 + 1) image (low-touch ∙ e)
        ∙ ap₂ (λ (l : List ℕ) (v : ℕ). set l (word * 2 + 1) v)
        (stored touch bytes (word * 2) image (high-touch ∙ e) ∙ ap (set (up_to word) (word * 2)) (high (code_at image) word))
        (low (code_at image) word))
        ∙ next
    by-test false e =
        sym (skipped touch bytes (word * 2 + 1) image (low-touch ∙ e) ∙ skipped touch bytes (word * 2) image (high-touch ∙ e))
        ∙ next

    -- mending the current word is the step to the next
    pub one_more : word_mended (up_to word) word ≡ up_to (word + 1)
    one_more =
        ap₂ (λ (b : Bool) (v : ℕ). pick b (set (set (up_to word) (word * 2) (v / 256)) (word * 2 + 1) (v % 256)) (up_to word))
        (same-mended (up_to word) image word (not_yet word)) (same_code (up_to word) image word (not_yet word))
        ∙ by-test (mended_at image word) refl
