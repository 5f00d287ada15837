-- `eeprom::gate` meets its contract: each return is one line of the list of tests, and if it passes the words are decoded and the mended ones counted.
-- Assumes nothing.
use borrow.Author.Tests.{lt-ltb, le-ltb}
use mathlib.Core.Path.{◌≡◌, sym, ap, ◌∙◌, subst}
use mathlib.Core.List.{List}
use Prim.Native.Nat.{ℕ, ◌<◌, ◌≤◌}
use native.Mathlib.Omega.{arith}
use lib.ListN.{length}
use Rattle.std.proofs.lemmas.Result.{err_from_is_err_and}
use Rattle.std.specs.Prelude.{⊤, Result, Ok, Err, Some, None}
use Rattle.lists.specs.Written.{filled}
use Rattle.refusal.specs.declared.Refusal.{Refusal}
use Rattle.refusal.specs.declared.Refusal.TheVariants.{ShortImage, ShortTable, DamagedWord}
use Rattle.refusal.specs.Order.{first_of}
use Rattle.util.specs.Found.{found_below}
use Rattle.util.specs.Words.{word_at}
use Rattle.util.proofs.Found.{some-below, none-below}
use Rattle.hamming.specs.Word.{data_values}
use Rattle.map.specs.Map.{card_words, image_bytes, frame_pixels}
use Rattle.card.specs.declared.Mending.{Mending}
use Rattle.card.specs.Card.{data_at, first_damaged, mending_below}
use Rattle.card.specs.Inner.{at}
use Rattle.card.proofs.Data.{data-lt, damaged-within, words_are}
use Rattle.eeprom.specs.Load.{giving, data_tests, load_tests}
use Rattle.eeprom.proofs.gate.Goals as goal

-- the tests, line by line
module _ (image : List ℕ) (range table : ℕ) where
  short-image : length image < image_bytes → Err (ShortImage (length image)) ≡ first_of (load_tests image range table)
  unfolding load_tests first_of
  short-image h = simp (lt-ltb _ _ h)

  module _ (l : image_bytes ≤ length image) where
    short-table : table < frame_pixels → Err ShortTable ≡ first_of (load_tests image range table)
    unfolding load_tests first_of
    short-table h = simp (le-ltb _ _ l, lt-ltb _ _ h)

    module _ (t : frame_pixels ≤ table) where
      damaged-word : (word bits : ℕ) → Some word ≡ found_below card_words (first_damaged image) → bits ≡ word_at image word → Err (DamagedWord word bits) ≡ first_of (load_tests image range table)
      unfolding load_tests first_of
      damaged-word word bits e f = let p = some-below _ _ (sym e) in simp (f, sym p.0, le-ltb _ _ l, le-ltb _ _ t, lt-ltb _ _ p.1)

      of-data : card_words ≤ first_damaged image → first_of (data_tests (data_at image) range) ≡ first_of (load_tests image range table)
      unfolding load_tests first_of
      of-data h = sym (simp (le-ltb _ _ l, le-ltb _ _ t, le-ltb _ _ h))

-- no word is damaged, so all of them are decoded
module _ (image words₀ words : List ℕ) (e : None ≡ found_below card_words (first_damaged image)) where
  sound : first_damaged image ≡ card_words
  sound = let h = none-below _ _ (sym e) in let w = damaged-within image in omega arith

  module _ (d : words ≡ filled (data_at image) (first_damaged image) words₀) where
    stored : words ≡ filled (data_at image) card_words words₀
    stored = rw sound at d

    module _ (l : length words₀ ≡ card_words) where
      words-are : at words ≡ data_at image
      words-are = ap at stored ∙ words_are image words₀ l

      small : (k : ℕ) → at words k < data_values
      small k = subst (λ (w : ℕ → ℕ). w k < data_values) (sym words-are) (data-lt image k)

-- the gate returns what its verdict gives
gives : {v w : Result ⊤ Refusal} (m : Mending) → v ≡ w → giving v m ≡ giving w m
gives m e = ap (λ (v : Result ⊤ Refusal). giving v m) e

pub returns-then-length-lt-IMAGE_BYTES-clause-value : goal.returns-then-length-lt-IMAGE_BYTES-clause-value
returns-then-length-lt-IMAGE_BYTES-clause-value c =
    let h : length c.args.image.now < image_bytes = omega arith in
    gives _ (short-image c.args.image.now c.args.basic_range c.args.table h)

pub returns-then-table-lt-PIXELS-clause-value : goal.returns-then-table-lt-PIXELS-clause-value
returns-then-table-lt-PIXELS-clause-value c =
    let l : image_bytes ≤ length c.args.image.now = omega arith in
    let h : c.args.table < frame_pixels = omega arith in
    gives _ (short-table c.args.image.now c.args.basic_range c.args.table l h)

pub returns-in-Some-clause-value : goal.returns-in-Some-clause-value
returns-in-Some-clause-value c =
    let l : image_bytes ≤ length c.args.image.now = omega arith in
    let t : frame_pixels ≤ c.args.table = omega arith in
    gives _ (damaged-word c.args.image.now c.args.basic_range c.args.table l t _ _ (sym c.in-Some.is ∙ c.decode-decoded.ensures.damaged_value) c.word_at-bits.ensures)

pub data_gate-requires : goal.data_gate-requires
data_gate-requires c =
    small c.args.image.now c.args.words.now _ (sym c.in_default.is ∙ c.decode-decoded.ensures.damaged_value) c.decode-decoded.ensures.words_after c.requires

-- the verdict of the data is the verdict of all tests
from-data : (image words₀ words : List ℕ) (range table : ℕ) {v : Result ⊤ Refusal} → image_bytes ≤ length image → frame_pixels ≤ table
    → None ≡ found_below card_words (first_damaged image)
    → words ≡ filled (data_at image) (first_damaged image) words₀ → length words₀ ≡ card_words → v ≡ first_of (data_tests (at words) range) → v ≡ first_of (load_tests image range table)
from-data image words₀ words range table l t e f w v =
    v ∙ ap (λ (w : ℕ → ℕ). first_of (data_tests w range)) (words-are image words₀ words e f w) ∙ of-data image range table l t (none-below _ _ (sym e))

pub returns-in_err-data_gate-clause-value : goal.returns-in_err-data_gate-clause-value
returns-in_err-data_gate-clause-value c =
    let l : image_bytes ≤ length c.args.image.now = omega arith in
    let t : frame_pixels ≤ c.args.table = omega arith in
    let e = sym c.in_default.is ∙ c.decode-decoded.ensures.damaged_value in
    let p = err_from_is_err_and c.from_residual.result c.from_residual.ensures.1 in
    rw (p.1, p.2)
    (gives _ (from-data c.args.image.now c.args.words.now _ c.args.basic_range c.args.table l t e c.decode-decoded.ensures.words_after c.requires c.in_err-data_gate.ensures))

pub returns-clause-value : goal.returns-clause-value
returns-clause-value c =
    let l : image_bytes ≤ length c.args.image.now = omega arith in
    let t : frame_pixels ≤ c.args.table = omega arith in
    let e = sym c.in_default.is ∙ c.decode-decoded.ensures.damaged_value in
    ap Ok (c.decode-decoded.ensures.mending_value ∙ ap (mending_below c.args.image.now) (sound c.args.image.now c.args.words.now c.args.words.now e))
    ∙ gives _ (from-data c.args.image.now c.args.words.now _ c.args.basic_range c.args.table l t e c.decode-decoded.ensures.words_after c.requires c.in_ok-data_gate.ensures)

pub returns-clause-words_after : goal.returns-clause-words_after
returns-clause-words_after c =
    stored c.args.image.now c.args.words.now _ (sym c.in_default.is ∙ c.decode-decoded.ensures.damaged_value) c.decode-decoded.ensures.words_after
