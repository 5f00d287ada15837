-- `reader::one` meets its contract: the byte completes a word or does not, and the word is damaged or is not. Assumes nothing.
use borrow.Author.Tests.{eq-eqb, ne_eqb, lt-ltb}
use mathlib.Core.Path.{◌≡◌, refl, sym}
use mathlib.Core.Bool.{Bool, true, false}
use mathlib.Core.List.{List}
use Prim.Native.Nat.{ℕ, ◌+◌, ◌/◌, ◌%◌, ◌<◌}
use native.Mathlib.Omega.{arith}
use Rattle.std.specs.Prelude.{Some, None, is_some, Ok, Err}
use Rattle.lists.specs.Pick.{pick}
use Rattle.refusal.specs.declared.Refusal.TheVariants.{DamagedWord}
use Rattle.util.specs.Words.{word_at}
use Rattle.map.specs.Map.{card_words, image_bytes}
use Rattle.card.specs.declared.Read.{Read}
use Rattle.card.specs.Card.{damaged_at}
use Rattle.reader.specs.Bytes.{held, verdict_on, completes}
use Rattle.reader.proofs.one.Goals as goal

-- the word that the byte completes, and the verdict on it
module _ (image : List ℕ) (count : ℕ) where
  even : count % 2 ≡ 0 → completes image count ≡ card_words
  unfolding completes
  even e = rw (eq-eqb _ 0 e) refl

  module _ (odd : count % 2 ≡ 0 → ⊥) where
    sound : damaged_at image (count / 2) ≡ false → completes image count ≡ card_words
    unfolding completes
    sound d = rw (ne_eqb _ 0 odd, d) refl

    spoilt : damaged_at image (count / 2) ≡ true → completes image count ≡ count / 2
    unfolding completes
    spoilt d = rw (ne_eqb _ 0 odd, d) refl

  passes : completes image count ≡ card_words → Ok tt ≡ verdict_on (held image (count + 1) (completes image count))
  unfolding verdict_on
  passes e = rw e refl

  refuses : (bits : ℕ) → completes image count ≡ count / 2 → count < image_bytes → bits ≡ word_at image (count / 2)
      → Err (DamagedWord (count / 2) bits) ≡ verdict_on (held image (count + 1) (completes image count))
  unfolding verdict_on
  refuses bits e h b = rw (e, lt-ltb (count / 2) card_words (omega arith), b) refl

pub returns-then-count-eq0 : goal.returns-then-count-eq0
returns-then-count-eq0 c = record { image_is = refl; count = refl; verdict = passes _ _ (even _ _ c.if-count-eq0.true) }

-- a word of which nothing is read is damaged, and no other
was-damaged : (d : Bool) (x : Read) → is_some (pick d None (Some x)) ≡ false → d ≡ true
was-damaged true x e = refl
was-damaged false x e = sym e

was-sound : (d : Bool) (x : Read) → is_some (pick d None (Some x)) ≡ true → d ≡ false
was-sound true x e = sym e
was-sound false x e = refl

pub returns-then-is_none : goal.returns-then-is_none
returns-then-is_none c =
    let d = was-damaged _ _ (rw c.read_word-read.ensures at c.if-is_none.ensures) in
    record { image_is = refl; count = refl; verdict = refuses _ _ _ (spoilt _ _ c.if-count-eq0.false d) c.requires c.word_at-bits.ensures }

pub returns : goal.returns
returns c =
    let d = was-sound _ _ (rw c.read_word-read.ensures at c.if-is_none.ensures) in
    record { image_is = refl; count = refl; verdict = passes _ _ (sound _ _ c.if-count-eq0.false d) }
