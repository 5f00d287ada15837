-- The bytes and words of a scrubbed image: it has the same data and the same damaged words as before, and no word to mend. Assumes nothing.
use Prim.Native.Nat.{ℕ, ◌+◌, ◌*◌, ◌/◌, ◌%◌, ◌≤◌, ◌<◌}
use mathlib.Core.Path.{◌≡◌, refl, sym, ap, ap₂, ◌∙◌, fun_ext}
use mathlib.Core.Bool.{Bool, true, false, not, ◌&&◌, true≢false}
use mathlib.Core.List.{List}
use native.Mathlib.Decide.{dec_le}
use native.Mathlib.Nat.{lt_of_not-le}
use native.Mathlib.Omega.{arith}
use lib.ListN.{length, get_or}
use Rattle.lists.specs.Pick.{pick}
use Rattle.lists.specs.First.{first_from}
use Rattle.lists.proofs.First.{is-first}
use Rattle.lists.proofs.Written.{written_at, written-past, length-written}
use Rattle.util.specs.Words.{big_endian, word_at}
use Rattle.hamming.specs.Word.{Said, is_said, said_data, codeword, decoded}
use Rattle.hamming.proofs.Flips.{clean}
use Rattle.map.specs.Map.{card_words, image_bytes, checked}
use Rattle.map.proofs.Spans.{unchecked-past}
use Rattle.card.specs.Card.{read_at, data_at, damaged_at, stray_at, first_damaged}
use Rattle.card.proofs.Data.{data-lt, read-checked, says-data}
use Rattle.writer.specs.Write.{byte_of}
use Rattle.writer.proofs.Bytes.{high, low}
use Rattle.writer.proofs.Codes.{encoded-clean}
use Rattle.scrub.specs.Scrub.{mended_at, code_at, scrubbed}
use Rattle.scrub.proofs.Mended.{same_read, same-mended, code_stays, damaged-stays, is-mended, mended-only, mended-checked}

pub length-after : (image : List ℕ) → length (scrubbed image) ≡ length image
unfolding scrubbed
length-after image = length-written _ _ image_bytes image

-- past the card no word is mended
none-past : (image : List ℕ) (word : ℕ) → card_words ≤ word → mended_at image word ≡ false
none-past image word h = go (mended_at image word) refl
  where
    go : (b : Bool) → mended_at image word ≡ b → b ≡ false
    go true e = absurd (true≢false (sym (mended-checked image word e) ∙ unchecked-past word h))
    go false e = refl

module _ (image : List ℕ) (l : image_bytes ≤ length image) where
  abbrev after : List ℕ
  after = scrubbed image

  -- ---- bytes

  pub byte : (k : ℕ) → k < image_bytes → get_or after k 0 ≡ pick (mended_at image (k / 2)) (byte_of (code_at image) k) (get_or image k 0)
  unfolding scrubbed
  byte k h = written_at _ _ image_bytes image k 0 l h

  pub byte_past : (k : ℕ) → image_bytes ≤ k → get_or after k 0 ≡ get_or image k 0
  unfolding scrubbed
  byte_past k h = written-past _ _ image_bytes image k 0 h

  -- ---- words: a mended word is its codeword, any other is as before

  module _ (word : ℕ) where
    either : (b : Bool) → pick b (code_at image word / 256) (get_or image (word * 2) 0) * 256 + pick b (code_at image word % 256) (get_or image (word * 2 + 1) 0)
        ≡ pick b (code_at image word) (big_endian (get_or image (word * 2) 0) (get_or image (word * 2 + 1) 0))
    either true = let e : code_at image word / 256 * 256 + code_at image word % 256 ≡ code_at image word = omega arith in e
    either false = refl

    at : (k : ℕ) → k / 2 ≡ word → word < card_words → get_or after k 0 ≡ pick (mended_at image word) (byte_of (code_at image) k) (get_or image k 0)
    at k e h = byte k (omega arith) ∙ ap (λ (w : ℕ). pick (mended_at image w) (byte_of (code_at image) k) (get_or image k 0)) e

    on_card : word < card_words → word_at after word ≡ pick (mended_at image word) (code_at image word) (word_at image word)
    unfolding word_at
    on_card h =
        ap₂ big_endian
        (at (word * 2) (omega arith) h ∙ ap (λ (v : ℕ). pick (mended_at image word) v (get_or image (word * 2) 0)) (high (code_at image) word))
        (at (word * 2 + 1) (omega arith) h ∙ ap (λ (v : ℕ). pick (mended_at image word) v (get_or image (word * 2 + 1) 0)) (low (code_at image) word))
        ∙ either (mended_at image word)

    past : card_words ≤ word → word_at after word ≡ pick (mended_at image word) (code_at image word) (word_at image word)
    unfolding word_at
    past h =
        ap₂ big_endian (byte_past (word * 2) (omega arith)) (byte_past (word * 2 + 1) (omega arith))
        ∙ sym (ap (λ (b : Bool). pick b (code_at image word) (word_at image word)) (none-past image word h))

    pub word_after : word_at after word ≡ pick (mended_at image word) (code_at image word) (word_at image word)
    word_after = elim (dec_le card_words word) [ yes h ↦ past h | no f ↦ on_card (lt_of_not-le f) ]

    pub mended-after : mended_at image word ≡ true → word_at after word ≡ code_at image word
    mended-after e = word_after ∙ ap (λ (b : Bool). pick b (code_at image word) (word_at image word)) e

    pub kept-after : mended_at image word ≡ false → word_at after word ≡ word_at image word
    kept-after e = word_after ∙ ap (λ (b : Bool). pick b (code_at image word) (word_at image word)) e

    -- ---- each word decodes to the same as before

    mended-reads : mended_at image word ≡ true → read_at after word ≡ read_at image word
    unfolding code_at
    mended-reads e =
        read-checked after word (mended-checked image word e) ∙ ap decoded (mended-after e) ∙ clean (data_at image word) (data-lt image word)
        ∙ sym (says-data image word (mended-only image word e).1)

    by-test : (b : Bool) → mended_at image word ≡ b → read_at after word ≡ read_at image word
    by-test true e = mended-reads e
    by-test false e = same_read after image word (kept-after e)

    pub read-after : read_at after word ≡ read_at image word
    read-after = by-test (mended_at image word) refl

    -- ---- no word is left to mend

    mended-code : mended_at image word ≡ true → stray_at after word ≡ false
    unfolding stray_at code_at
    mended-code e =
        ap (λ (w : ℕ). checked word && not (codeword w)) (mended-after e)
        ∙ ap (λ (b : Bool). checked word && not b) (encoded-clean (data_at image word) (data-lt image word)) ∙ and-false (checked word)
      where
        and-false : (b : Bool) → (b && false) ≡ false
        and-false true = refl
        and-false false = refl

    none-by : (b : Bool) → mended_at image word ≡ b → mended_at after word ≡ false
    none-by true e = code_stays after word (mended-code e)
    none-by false e = same-mended after image word (kept-after e) ∙ e

    pub none-mended : mended_at after word ≡ false
    none-mended = none-by (mended_at image word) refl

    stray-by : (b : Bool) → stray_at after word ≡ b → damaged_at after word ≡ false → b ≡ false
    stray-by true e d = absurd (true≢false (sym (is-mended after word e d) ∙ none-mended))
    stray-by false e d = refl

    pub none-stray : damaged_at after word ≡ false → stray_at after word ≡ false
    none-stray d = stray-by (stray_at after word) refl d

  -- ---- the same for all words

  pub data-after : data_at after ≡ data_at image
  unfolding data_at
  data-after = fun_ext (λ word. ap said_data (read-after word))

  pub damaged-after : damaged_at after ≡ damaged_at image
  unfolding damaged_at
  damaged-after = fun_ext (λ word. ap (λ (s : Said). not (is_said s)) (read-after word))

  pub first-after : first_damaged after ≡ first_damaged image
  unfolding first_damaged
  first-after = ap (λ (p : ℕ → Bool). first_from p 0 card_words) damaged-after

  -- the first damaged word has the same bits as before
  first_by : (word : ℕ) → (word < card_words → damaged_at image word ≡ true) → word_at after word ≡ word_at image word
  first_by word d = elim (dec_le card_words word) [
    | yes h ↦ kept-after word (none-past image word h)
    | no f ↦ kept-after word (damaged-stays image word (d (lt_of_not-le f)))
  ]

  pub first_word : word_at after (first_damaged image) ≡ word_at image (first_damaged image)
  unfolding first_damaged
  first_word = first_by (first_damaged image) (λ h. (is-first (damaged_at image) 0 card_words).at h)
