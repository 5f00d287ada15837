-- Round trips. A written card is clean and holds its lists; a card holds the lists that reading it produces; and the lists that a card holds determine
-- its data and, if it is clean, its bytes. Assumes nothing.
use Prim.Native.Nat.{ℕ, min, ◌+◌, ◌*◌, ◌/◌, ◌%◌, ◌≤◌, ◌<◌}
use mathlib.Core.Path.{◌≡◌, refl, sym, ap, ap₂, ◌∙◌, subst, fun_ext}
use mathlib.Core.Bool.{Bool, true, false, not, true≢false}
use mathlib.Core.List.{List}
use borrow.Author.Tests.{not-true}
use native.Mathlib.Decide.{dec_le}
use native.Mathlib.Nat.{lt_of_not-le, le_of_eq}
use native.Mathlib.Omega.{arith}
use lib.Dec.{eqb}
use lib.ListN.{length, get_or, take, length-take}
use lib.Seq.{get_or-take, ext_get_or}
use Rattle.lists.specs.Pick.{pick}
use Rattle.lists.specs.Written.{filled}
use Rattle.lists.proofs.First.{first-is, is-first}
use Rattle.lists.proofs.Written.{written_at, length-written}
use Rattle.std.specs.Prelude.{⊤, Result, Ok}
use Rattle.refusal.specs.declared.Refusal.{Refusal}
use Rattle.refusal.specs.Refusal.{unless}
use Rattle.util.specs.Words.{word_at}
use Rattle.hamming.specs.Word.{says, data_values, encoded, codeword, decoded}
use Rattle.hamming.proofs.Flips.{clean}
use Rattle.map.specs.Map.{card_words, image_bytes, checked_words, checked}
use Rattle.map.proofs.Spans.{unchecked-past}
use Rattle.card.specs.Card.{read_at, data_at, damaged_at, first_damaged}
use Rattle.card.proofs.Data.{data-lt, data_is, not-damaged, read-checked, read-unchecked, says-data}
use Rattle.listing.specs.Index.{Lists, lists, unchecked, unchecked_words, list_index, listed_word}
use Rattle.listing.specs.Read.{lists_of, Reads}
use Rattle.listing.proofs.Index.{checked-all, unchecked-all, checked-lt, unchecked-lt, word-of-index, listed-lt, is-listed, index-of-word}
use Rattle.listing.proofs.Opened as reading
use Rattle.writer.specs.Write.{word_from, byte_of, image_from, Writes}
use Rattle.writer.specs.Round.{Holds, Clean, Bytes, firsts}
use Rattle.writer.specs.Inner.{Fit}
use Rattle.writer.proofs.Codes.{encoded-clean, clean-says}
use Rattle.writer.proofs.From.{from-checked, from-unchecked}
use Rattle.writer.proofs.Bytes.{high, low, word-there}
use Rattle.writer.proofs.Opened as writing

-- ---- a written card

module _ (from : Lists) (before : List ℕ) (f : Fit from) (l : image_bytes ≤ length before) where
  abbrev written : List ℕ
  written = image_from from before

  abbrev datum : ℕ → ℕ
  datum word = get_or from.checked (list_index checked word) 0

  at-word : (word : ℕ) → word < card_words → word_at written word ≡ word_from from word
  unfolding image_from
  at-word word h = word-there (word_from from) before l word h

  at-checked : (word : ℕ) → word < card_words → checked word ≡ true → word_at written word ≡ encoded (datum word)
  at-checked word h e = at-word word h ∙ from-checked from word e

  at-unchecked : (word : ℕ) → word < card_words → checked word ≡ false → word_at written word ≡ get_or from.unchecked (list_index unchecked word) 0
  at-unchecked word h e = at-word word h ∙ from-unchecked from word e

  small : (word : ℕ) → word < card_words → checked word ≡ true → datum word < data_values
  small word h e = f.small (list_index checked word) (checked-lt word h e)

  written-holds : Holds from written
  written-holds = record {
    said = λ word h e. read-checked written word e ∙ ap decoded (at-checked word h e) ∙ clean (datum word) (small word h e);
    stands = at-unchecked;
  }

  written-clean : Clean written
  written-clean word h e = ap codeword (at-checked word h e) ∙ encoded-clean (datum word) (small word h e)

-- ---- what follows if an image holds two lists

module _ (image : List ℕ) (from : Lists) (o : Holds from image) where
  -- it has no damaged word
  by-test : (word : ℕ) → word < card_words → (b : Bool) → checked word ≡ b → damaged_at image word ≡ false
  by-test word h true e = not-damaged image word _ (o.said word h e)
  by-test word h false e = not-damaged image word 0 (read-unchecked image word e)

  pub none-damaged : card_words ≡ first_damaged image
  unfolding first_damaged
  none-damaged =
      first-is (damaged_at image) 0 card_words card_words (record {
        from = omega arith;
        within = omega arith;
        before = λ k a b. by-test k b (checked k) refl;
        at = λ l. absurd (let q : ⊥ = omega arith in q);
      })

  -- each entry of the lists is the data of its word, or its unchecked word
  entry-checked : (index : ℕ) → index < checked_words → get_or from.checked index 0 ≡ data_at image (listed_word checked index)
  entry-checked index h =
      let i : index < list_index checked card_words = subst (λ (n : ℕ). index < n) (sym checked-all) h in
      ap (λ (k : ℕ). get_or from.checked k 0) (sym (index-of-word checked index i))
      ∙ data_is image (listed_word checked index) _ (o.said (listed_word checked index) (listed-lt checked index i) (is-listed checked index i))

  entry-unchecked : (index : ℕ) → index < unchecked_words → get_or from.unchecked index 0 ≡ word_at image (listed_word unchecked index)
  entry-unchecked index h =
      let i : index < list_index unchecked card_words = subst (λ (n : ℕ). index < n) (sym unchecked-all) h in
      ap (λ (k : ℕ). get_or from.unchecked k 0) (sym (index-of-word unchecked index i))
      ∙ sym (o.stands (listed_word unchecked index) (listed-lt unchecked index i) (not-true _ (is-listed unchecked index i)))

  -- the entry of a checked word is its data
  datum-is : (word : ℕ) → word < card_words → checked word ≡ true → get_or from.checked (list_index checked word) 0 ≡ data_at image word
  datum-is word h e = data_is image word _ (o.said word h e)

  -- each word of a clean image is the word that would be written
  clean-word : Clean image → (word : ℕ) → word < card_words → (b : Bool) → checked word ≡ b → word_from from word ≡ word_at image word
  clean-word c word h true e = from-checked from word e ∙ sym (clean-says _ _ (c word h e) (sym (read-checked image word e) ∙ o.said word h e))
  clean-word c word h false e = from-unchecked from word e ∙ sym (o.stands word h e)

  pub word-is : Clean image → (word : ℕ) → word < card_words → word_from from word ≡ word_at image word
  word-is c word h = clean-word c word h (checked word) refl

-- two images that hold the same lists have the same data
module _ (image other : List ℕ) (from : Lists) (o : Holds from image) (p : Holds from other) where
  no-data : (im : List ℕ) (word : ℕ) → checked word ≡ false → 0 ≡ data_at im word
  no-data im word e = data_is im word 0 (read-unchecked im word e)

  same-datum : (word : ℕ) (b : Bool) → checked word ≡ b → data_at image word ≡ data_at other word
  same-datum word true e = elim (dec_le card_words word) [
    | yes h ↦ absurd (true≢false (sym e ∙ unchecked-past word h))
    | no f ↦ let h : word < card_words = lt_of_not-le f in sym (datum-is image from o word h e) ∙ datum-is other from p word h e
  ]
  same-datum word false e = sym (no-data image word e) ∙ no-data other word e

  pub same-data : data_at image ≡ data_at other
  same-data = fun_ext (λ word. same-datum word (checked word) refl)

-- an image holds only one pair of lists
pub same_lists : (image : List ℕ) (f g : Lists) → Holds f image → Holds g image → length f.checked ≡ checked_words → length g.checked ≡ checked_words
    → length f.unchecked ≡ unchecked_words → length g.unchecked ≡ unchecked_words → f ≡ g
same_lists image f g o p a b c d =
    ap₂ lists
    (ext_get_or 0 f.checked g.checked (a ∙ sym b) (λ i h. entry-checked image f o i (omega arith) ∙ sym (entry-checked image g p i (omega arith))))
    (ext_get_or 0 f.unchecked g.unchecked (c ∙ sym d) (λ i h. entry-unchecked image f o i (omega arith) ∙ sym (entry-unchecked image g p i (omega arith))))

-- ---- a card that is read

module _ (image : List ℕ) (word : ℕ) (h : word < card_words) (n : card_words ≤ first_damaged image) where
  pub undamaged : damaged_at image word ≡ false
  unfolding first_damaged
  undamaged = (is-first (damaged_at image) 0 card_words).before word (omega arith) (omega arith)

  says-datum : read_at image word ≡ says (data_at image word)
  says-datum = says-data image word undamaged

module _ (image : List ℕ) (b : Lists) (s : reading.Sound image (length b.checked) (length b.unchecked)) where
  abbrev got : Lists
  got = firsts (lists_of image b)

  length-of : (f : ℕ → ℕ) (n : ℕ) (l : List ℕ) → n ≤ length l → length (take n (filled f n l)) ≡ n
  length-of f n l h =
      length-take n (filled f n l) ∙ (let e = length-written (λ (k : ℕ). true) f n l in let m : min n (length (filled f n l)) ≡ n = omega arith in m)

  entry_of : (f : ℕ → ℕ) (n : ℕ) (l : List ℕ) (i : ℕ) → n ≤ length l → i < n → get_or (take n (filled f n l)) i 0 ≡ f i
  entry_of f n l i h k = get_or-take n (filled f n l) i 0 k ∙ written_at (λ (k : ℕ). true) f n l i 0 h k

  entry_first : (i : ℕ) → i < checked_words → get_or got.checked i 0 ≡ data_at image (listed_word checked i)
  unfolding lists_of
  entry_first i h = entry_of _ checked_words b.checked i s.first-long h

  entry-second : (i : ℕ) → i < unchecked_words → get_or got.unchecked i 0 ≡ word_at image (listed_word unchecked i)
  unfolding lists_of
  entry-second i h = entry_of _ unchecked_words b.unchecked i s.second-long h

  got-fits : Fit got
  unfolding lists_of
  got-fits = record {
    checked = length-of _ checked_words b.checked s.first-long;
    unchecked = length-of _ unchecked_words b.unchecked s.second-long;
    small = λ i h. subst (λ (d : ℕ). d < data_values) (sym (entry_first i h)) (data-lt image (listed_word checked i));
  }

  got-holds : Holds got image
  got-holds = record {
    said = λ word h e.
        says-datum image word h s.none
        ∙ ap says (sym (entry_first (list_index checked word) (checked-lt word h e) ∙ ap (data_at image) (word-of-index checked word h e)));
    stands = λ word h e.
        sym (entry-second (list_index unchecked word) (unchecked-lt word h e) ∙ ap (word_at image) (word-of-index unchecked word h (ap not e)));
  }

-- ---- bytes

-- the bytes of an image's words are the image
module _ (image : List ℕ) (y : Bytes image) where
  even : (w : ℕ) → byte_of (word_at image) (w * 2) ≡ get_or image (w * 2) 0
  unfolding word_at
  even w = high (word_at image) w ∙ (let l = y (w * 2 + 1) in let e : word_at image w / 256 ≡ get_or image (w * 2) 0 = omega arith in e)

  odd : (w : ℕ) → byte_of (word_at image) (w * 2 + 1) ≡ get_or image (w * 2 + 1) 0
  unfolding word_at
  odd w = low (word_at image) w ∙ (let l = y (w * 2 + 1) in let e : word_at image w % 256 ≡ get_or image (w * 2 + 1) 0 = omega arith in e)

  bytes-are : (k : ℕ) → byte_of (word_at image) k ≡ get_or image k 0
  bytes-are k = elim (dec_le 1 (k % 2)) [
    | yes h ↦ subst (λ (n : ℕ). byte_of (word_at image) n ≡ get_or image n 0) (let e : k / 2 * 2 + 1 ≡ k = omega arith in e) (odd (k / 2))
    | no f ↦ subst (λ (n : ℕ). byte_of (word_at image) n ≡ get_or image n 0) (let h = lt_of_not-le f in let e : k / 2 * 2 ≡ k = omega arith in e) (even (k / 2))
  ]

-- ---- the round trips

-- if the verdict is `Ok`, the new value is the result
new-if : {A : Type 0} {r : Result ⊤ Refusal} (new old : A) {x : A} → r ≡ Ok tt → x ≡ unless r new old → x ≡ new
new-if new old e p = p ∙ ap (λ (v : Result ⊤ Refusal). unless v new old) e

-- a written card holds its lists, and is clean
pub written_back : {from : Lists} {before after : List ℕ} → Writes from before after (Ok tt) → Holds from after × Clean after
written_back {from} {before} w =
    let f = writing.opened from (length before) (sym w.verdict) in (
      subst (Holds from) (sym w.image) (written-holds from before f.0 f.1),
      subst Clean (sym w.image) (written-clean from before f.0 f.1),
    )

-- reading a written card returns the lists
module _ {from b a : Lists} {before after : List ℕ} {r : Result ⊤ Refusal} (w : Writes from before after (Ok tt)) (i : checked_words ≤ length b.checked)
    (j : unchecked_words ≤ length b.unchecked) (d : Reads after b a r) where
  fits : Fit from × (image_bytes ≤ length before)
  fits = writing.opened from (length before) (sym w.verdict)

  holds : Holds from after
  holds = (written_back w).0

  long : length after ≡ length before
  unfolding image_from
  long = ap length w.image ∙ length-written (λ (k : ℕ). true) (byte_of (word_from from)) image_bytes before

  sound : reading.Sound after (length b.checked) (length b.unchecked)
  sound = record {
    image-long = let e = long in let h = fits.1 in omega arith;
    first-long = i;
    second-long = j;
    none = le_of_eq (none-damaged after from holds);
  }

  read-passes : r ≡ Ok tt
  read-passes = d.verdict ∙ reading.closed after (length b.checked) (length b.unchecked) sound

  pub read_back : (r ≡ Ok tt) × (firsts a ≡ from)
  read_back = (
    read-passes,
    ap firsts (new-if _ _ read-passes d.lent)
        ∙ (let g = got-fits after b sound in
        same_lists after (firsts (lists_of after b)) from (got-holds after b sound) holds g.checked fits.0.checked g.unchecked fits.0.unchecked),
  )

-- writing the lists that were read gives a clean card with the same data, and the same bytes if the card that was read is clean
module _ {image before after : List ℕ} {b a : Lists} {r : Result ⊤ Refusal} (d : Reads image b a (Ok tt)) (l : image_bytes ≤ length before)
    (w : Writes (firsts a) before after r) where
  pub taken : reading.Sound image (length b.checked) (length b.unchecked)
  taken = reading.opened image (length b.checked) (length b.unchecked) (sym d.verdict)

  fit : Fit (firsts a)
  fit = subst (λ (x : Lists). Fit (firsts x)) (sym d.lent) (got-fits image b taken)

  held : Holds (firsts a) image
  held = subst (λ (x : Lists). Holds (firsts x) image) (sym d.lent) (got-holds image b taken)

  pub write-passes : r ≡ Ok tt
  write-passes = w.verdict ∙ writing.closed (firsts a) (length before) fit l

  image-is : after ≡ image_from (firsts a) before
  image-is = new-if _ _ write-passes w.image

  pub back-clean : Clean after
  back-clean = subst Clean (sym image-is) (written-clean (firsts a) before fit l)

  pub held_after : Holds (firsts a) after
  held_after = subst (Holds (firsts a)) (sym image-is) (written-holds (firsts a) before fit l)

  pub back-data : data_at after ≡ data_at image
  back-data = same-data after image (firsts a) held_after held

  pub back-words : (word : ℕ) → word < card_words → checked word ≡ false → word_at after word ≡ word_at image word
  back-words word h e = held_after.stands word h e ∙ sym (held.stands word h e)

  back-byte : Clean image → Bytes image → (k : ℕ) → k < image_bytes → get_or after k 0 ≡ get_or image k 0
  unfolding image_from
  back-byte c y k h =
      ap (λ (x : List ℕ). get_or x k 0) image-is
      ∙ written_at (λ (n : ℕ). true) (byte_of (word_from (firsts a))) image_bytes before k 0 l h
      ∙ ap (λ (v : ℕ). pick (eqb (k % 2) 0) (v / 256) (v % 256)) (word-is image (firsts a) held c (k / 2) (omega arith))
      ∙ bytes-are image y k

  length-first : (x : List ℕ) → image_bytes ≤ length x → length (take image_bytes x) ≡ image_bytes
  length-first x h = length-take image_bytes x ∙ (let e : min image_bytes (length x) ≡ image_bytes = omega arith in e)

  pub length-after : image_bytes ≤ length after
  unfolding image_from
  length-after =
      subst (λ (n : ℕ). image_bytes ≤ n) (sym (ap length image-is ∙ length-written (λ (k : ℕ). true) (byte_of (word_from (firsts a))) image_bytes before)) l

  pub back-bytes : Clean image → Bytes image → take image_bytes after ≡ take image_bytes image
  back-bytes c y =
      let p = length-first after length-after in
      ext_get_or 0 (take image_bytes after) (take image_bytes image) (p ∙ sym (length-first image taken.image-long))
      (λ k h. let q : k < image_bytes = omega arith in get_or-take image_bytes after k 0 q ∙ back-byte c y k q ∙ sym (get_or-take image_bytes image k 0 q))
