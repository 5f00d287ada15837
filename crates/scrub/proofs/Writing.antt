-- Scrubbing a card without damaged words gives the same bytes as reading its words and writing them again. Assumes nothing.
use Prim.Native.Nat.{ℕ, ◌/◌, ◌%◌, ◌≤◌, ◌<◌}
use mathlib.Core.Path.{◌≡◌, refl, sym, ap, ap₂, ◌∙◌, subst}
use mathlib.Core.Bool.{Bool, true, false, not, ◌&&◌, true≢false}
use mathlib.Core.List.{List}
use borrow.Author.Tests.{not-true}
use native.Mathlib.Decide.{dec_le}
use native.Mathlib.Nat.{lt_of_not-le, le_of_eq}
use native.Mathlib.Omega.{arith}
use lib.Dec.{eqb}
use lib.ListN.{length, get_or, take}
use lib.Seq.{get_or-take, ext_get_or}
use Rattle.lists.specs.Pick.{pick}
use Rattle.lists.specs.Written.{filled}
use Rattle.lists.proofs.Again.{written_same}
use Rattle.lists.proofs.First.{first-is}
use Rattle.lists.proofs.Written.{written-past, length-written}
use Rattle.std.specs.Prelude.{⊤, Result, Ok}
use Rattle.refusal.specs.declared.Refusal.{Refusal}
use Rattle.refusal.specs.Refusal.{unless}
use Rattle.refusal.specs.Order.{first_of}
use Rattle.util.specs.Words.{word_at}
use Rattle.hamming.specs.Word.{data_values, parity, with_four, encoded, codeword}
use Rattle.map.specs.Map.{card_words, image_bytes, checked_words, checked}
use Rattle.card.specs.Card.{data_at, damaged_at, first_damaged, stray_at}
use Rattle.card.proofs.Data.{data-lt}
use Rattle.listing.specs.Index.{Lists, lists, unchecked, unchecked_words, listed_word}
use Rattle.listing.specs.Read.{lists_of, read_tests, Reads}
use Rattle.listing.proofs.Index.{index-before, is-listed, unchecked-all}
use Rattle.listing.proofs.Opened as reading
use Rattle.writer.specs.Write.{word_from, byte_of, image_from, Writes}
use Rattle.writer.specs.Round.{Clean, Bytes, firsts}
use Rattle.writer.proofs.Round.{undamaged, write-passes, back-bytes}
use Rattle.scrub.specs.declared.Counts.{Counts}
use Rattle.scrub.specs.Scrub.{mended_at, code_at, scrubbed, how_many, Lent, left_of, counts_of, Scrubs}
use Rattle.scrub.proofs.Mended.{mended-checked}
use Rattle.scrub.proofs.Listed.{new-if, long, left_is, counts-are}
use Rattle.scrub.proofs.After.{length-after, byte, byte_past, kept-after, none-stray, data-after, first-after, first_word}

-- if the number of words that pass a test is 0, no word passes it
none_passes : (test : ℕ → Bool) → how_many test ≡ 0 → (word : ℕ) → word < card_words → test word ≡ false
unfolding how_many
none_passes test e word h = go (test word) refl
  where
    go : (b : Bool) → test word ≡ b → b ≡ false
    go true t = absurd (let i = index-before test word card_words t h in let q : ⊥ = omega arith in q)
    go false t = refl

none_first : (image : List ℕ) → ((word : ℕ) → word < card_words → damaged_at image word ≡ false) → card_words ≡ first_damaged image
unfolding first_damaged
none_first image f =
    first-is (damaged_at image) 0 card_words card_words (record {
      from = omega arith;
      within = omega arith;
      before = λ k a b. f k b;
      at = λ l. absurd (let q : ⊥ = omega arith in q);
    })

code_lt : (d : ℕ) → d < data_values → encoded d < 65536
unfolding encoded with_four parity
code_lt d h = omega arith

byte-lt : (words : ℕ → ℕ) (k : ℕ) → words (k / 2) < 65536 → byte_of words k < 256
byte-lt words k h = go (eqb (k % 2) 0)
  where
    go : (b : Bool) → pick b (words (k / 2) / 256) (words (k / 2) % 256) < 256
    go true = omega arith
    go false = omega arith

-- ---- a scrubbed image

module _ (image : List ℕ) (l : image_bytes ≤ length image) where
  -- its entries are bytes
  scrubbed-bytes : Bytes image → Bytes (scrubbed image)
  unfolding code_at
  scrubbed-bytes y k = elim (dec_le image_bytes k) [
    | yes h ↦ subst (λ (n : ℕ). n < 256) (sym (byte_past image l k h)) (y k)
    | no f ↦ subst (λ (n : ℕ). n < 256) (sym (byte image l k (lt_of_not-le f))) (go (mended_at image (k / 2)))
  ]
    where
      go : (b : Bool) → pick b (byte_of (code_at image) k) (get_or image k 0) < 256
      go true = byte-lt (code_at image) k (code_lt (data_at image (k / 2)) (data-lt image (k / 2)))
      go false = y k

  -- its unchecked words are as they were
  unchecked-kept : (word : ℕ) → checked word ≡ false → word_at (scrubbed image) word ≡ word_at image word
  unchecked-kept word e = kept-after image l word (go (mended_at image word) refl)
    where
      go : (b : Bool) → mended_at image word ≡ b → b ≡ false
      go true m = absurd (true≢false (sym (mended-checked image word m) ∙ e))
      go false m = refl

  -- it is clean if no word is damaged
  scrubbed-clean : card_words ≤ first_damaged (scrubbed image) → Clean (scrubbed image)
  unfolding stray_at
  scrubbed-clean n word h e =
      go (checked word) (codeword (word_at (scrubbed image) word)) e (none-stray image l word (undamaged (scrubbed image) word h n))
    where
      go : (a b : Bool) → a ≡ true → (a && not b) ≡ false → b ≡ true
      go true true e f = refl
      go true false e f = absurd (true≢false f)
      go false b e f = absurd (true≢false (sym e))

  -- reading it gives the same lists
  same_lists : (b : Lists) → lists_of (scrubbed image) b ≡ lists_of image b
  unfolding lists_of
  same_lists b =
      ap₂ lists
      (ap (λ (d : ℕ → ℕ). filled (λ index. d (listed_word checked index)) checked_words b.checked) (data-after image l))
      (written_same (λ (k : ℕ). true) (λ index. word_at (scrubbed image) (listed_word unchecked index)) (λ index. word_at image (listed_word unchecked index)) unchecked_words b.unchecked
      (λ k h t. unchecked-kept (listed_word unchecked k) (not-true _ (is-listed unchecked k (subst (λ (n : ℕ). k < n) (sym unchecked-all) h)))))

  same_tests : (m n : ℕ) → read_tests (scrubbed image) m n ≡ read_tests image m n
  unfolding read_tests
  same_tests m n = rw (length-after image, first-after image l, first_word image l) refl

  reads-after : {b a : Lists} {r : Result ⊤ Refusal} → Reads image b a r → Reads (scrubbed image) b a r
  reads-after {b} {a} {r} d = record {
    verdict = d.verdict ∙ sym (ap first_of (same_tests (length b.checked) (length b.unchecked)));
    lent = d.lent ∙ sym (ap (λ (x : Lists). unless r x b) (same_lists b));
  }

-- ---- reading the card and writing what was read

module _ {before after : Lent} {r : Result Counts Refusal} {n : Counts} (s : Scrubs before after r) (e : r ≡ Ok n) (none : n.damaged ≡ 0) where
  abbrev image : List ℕ
  image = before.image

  undamaged-all : card_words ≤ first_damaged image
  unfolding counts_of
  undamaged-all = le_of_eq (none_first image (none_passes (damaged_at image) (rw (counts-are s e) at none)))

  module _ {b a : Lists} {v : Result ⊤ Refusal} (d : Reads image b a v) (h : checked_words ≤ length b.checked) (k : unchecked_words ≤ length b.unchecked) where
    pub reads : v ≡ Ok tt
    reads =
        d.verdict
        ∙ reading.closed image (length b.checked) (length b.unchecked) (record { image-long = (long s e).image; first-long = h; second-long = k; none = undamaged-all })

    module _ {lent written : List ℕ} {w : Result ⊤ Refusal} (m : image_bytes ≤ length lent) (o : Writes (firsts a) lent written w) where
      read_off : Reads (scrubbed image) b a (Ok tt)
      read_off = rw reads at (reads-after image (long s e).image d)

      pub writes : w ≡ Ok tt
      writes = write-passes read_off m o

      -- writing gives the same 1,664 bytes as the scrub
      pub as_written : Bytes image → take image_bytes written ≡ take image_bytes after.image
      unfolding left_of
      as_written y =
          let l = (long s e).image in
          rw (left_is s e)
          (back-bytes read_off m o (scrubbed-clean image l (subst (λ (n : ℕ). card_words ≤ n) (sym (first-after image l)) undamaged-all)) (scrubbed-bytes image l y))

    -- if the lists are written over the card itself, every byte is the same
    module _ {written : List ℕ} {w : Result ⊤ Refusal} (o : Writes (firsts a) image written w) (y : Bytes image) where
      abbrev l : image_bytes ≤ length image
      l = (long s e).image

      image-is : written ≡ image_from (firsts a) image
      image-is = new-if _ _ (writes l o) o.image

      same_length : length written ≡ length after.image
      unfolding image_from left_of
      same_length =
          ap length image-is ∙ length-written (λ (k : ℕ). true) (byte_of (word_from (firsts a))) image_bytes image
          ∙ sym (ap (λ (x : Lent). length x.image) (left_is s e) ∙ length-after image)

      first-bytes : (k : ℕ) → k < image_bytes → get_or written k 0 ≡ get_or after.image k 0
      first-bytes k h =
          sym (get_or-take image_bytes written k 0 h) ∙ ap (λ (x : List ℕ). get_or x k 0) (as_written l o y) ∙ get_or-take image_bytes after.image k 0 h

      later-bytes : (k : ℕ) → image_bytes ≤ k → get_or written k 0 ≡ get_or after.image k 0
      unfolding image_from left_of
      later-bytes k h =
          ap (λ (x : List ℕ). get_or x k 0) image-is ∙ written-past (λ (k : ℕ). true) (byte_of (word_from (firsts a))) image_bytes image k 0 h
          ∙ sym (ap (λ (x : Lent). get_or x.image k 0) (left_is s e) ∙ byte_past image l k h)

      pub written_over : written ≡ after.image
      written_over =
          ext_get_or 0 written after.image same_length
          (λ k h. elim (dec_le image_bytes k) [ yes g ↦ later-bytes k g | no f ↦ first-bytes k (lt_of_not-le f) ])
