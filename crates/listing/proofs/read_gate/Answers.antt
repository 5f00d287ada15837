-- `listing::read_gate` meets its contract: each return is one line of the definition, and the words are decoded where it passes.
-- Assumes nothing.
use borrow.Author.Tests.{lt-ltb, le-ltb}
use mathlib.Core.Path.{◌≡◌, sym, ◌∙◌}
use Prim.Native.Nat.{◌<◌, ◌≤◌}
use native.Mathlib.Omega.{arith}
use lib.ListN.{length}
use Rattle.refusal.specs.Order.{first_of}
use Rattle.util.proofs.Found.{some-below, none-below}
use Rattle.map.specs.Map.{card_words, image_bytes, checked_words}
use Rattle.card.specs.Card.{first_damaged}
use Rattle.card.proofs.Data.{damaged-within}
use Rattle.listing.specs.Index.{unchecked_words}
use Rattle.listing.specs.Read.{read_tests}
use Rattle.listing.proofs.read_gate.Goals as goal

pub returns-then-length-lt-IMAGE_BYTES : goal.returns-then-length-lt-IMAGE_BYTES
unfolding read_tests first_of
returns-then-length-lt-IMAGE_BYTES c =
    let h : length c.args.image.now < image_bytes = omega arith in
    record { value = simp (lt-ltb _ _ h); words_after = tt }

pub returns-then-data-lt-CHECKED_WORDS : goal.returns-then-data-lt-CHECKED_WORDS
unfolding read_tests first_of
returns-then-data-lt-CHECKED_WORDS c =
    let a : image_bytes ≤ length c.args.image.now = omega arith in
    let h : c.args.«data» < checked_words = omega arith in
    record { value = simp (le-ltb _ _ a, lt-ltb _ _ h); words_after = tt }

pub returns-then-others-lt-UNCHECKED_WORDS : goal.returns-then-others-lt-UNCHECKED_WORDS
unfolding read_tests first_of
returns-then-others-lt-UNCHECKED_WORDS c =
    let a : image_bytes ≤ length c.args.image.now = omega arith in
    let b : checked_words ≤ c.args.«data» = omega arith in
    let h : c.args.others < unchecked_words = omega arith in
    record { value = simp (le-ltb _ _ a, le-ltb _ _ b, lt-ltb _ _ h); words_after = tt }

pub returns-in-Some : goal.returns-in-Some
unfolding read_tests first_of
returns-in-Some c =
    let a : image_bytes ≤ length c.args.image.now = omega arith in
    let b : checked_words ≤ c.args.«data» = omega arith in
    let d : unchecked_words ≤ c.args.others = omega arith in
    let f = some-below card_words (first_damaged c.args.image.now) (sym c.decode.ensures.damaged_value ∙ c.in-Some.is) in
    record {
      value = simp (c.word_at-bits.ensures, sym f.0, le-ltb _ _ a, le-ltb _ _ b, le-ltb _ _ d, lt-ltb _ _ f.1);
      words_after = tt;
    }

pub returns-in-None : goal.returns-in-None
unfolding read_tests first_of
returns-in-None c =
    let a : image_bytes ≤ length c.args.image.now = omega arith in
    let b : checked_words ≤ c.args.«data» = omega arith in
    let d : unchecked_words ≤ c.args.others = omega arith in
    let n = none-below card_words (first_damaged c.args.image.now) (sym c.decode.ensures.damaged_value ∙ c.in-None.is) in
    let w = damaged-within c.args.image.now in
    let k : first_damaged c.args.image.now ≡ card_words = omega arith in
    record {
      value = simp (le-ltb _ _ a, le-ltb _ _ b, le-ltb _ _ d, le-ltb _ _ n);
      words_after = (rw k at c.decode.ensures.words_after);
    }
