-- `writer::write_gate` meets its contract: each return is one line of the list of tests. Assumes nothing.
use borrow.Author.Tests.{lt-ltb, le-ltb, eq-eqb, ne_eqb}
use mathlib.Core.Path.{sym, ◌∙◌}
use Rattle.util.proofs.Found.{some-below, none-below}
use Rattle.refusal.specs.Order.{first_of}
use Rattle.map.specs.Map.{checked_words}
use Rattle.writer.specs.Write.{first_large, write_tests}
use Rattle.writer.proofs.write_gate.Goals as goal

pub returns-then-length-ne-CHECKED_WORDS : goal.returns-then-length-ne-CHECKED_WORDS
unfolding write_tests first_of
returns-then-length-ne-CHECKED_WORDS c = simp (ne_eqb _ _ c.if-length-ne-CHECKED_WORDS.true)

pub returns-then-length-ne-UNCHECKED_WORDS : goal.returns-then-length-ne-UNCHECKED_WORDS
unfolding write_tests first_of
returns-then-length-ne-UNCHECKED_WORDS c = simp (eq-eqb _ _ (c.if-length-ne-CHECKED_WORDS.false), ne_eqb _ _ c.if-length-ne-UNCHECKED_WORDS.true)

pub returns-then-image-lt-IMAGE_BYTES : goal.returns-then-image-lt-IMAGE_BYTES
unfolding write_tests first_of
returns-then-image-lt-IMAGE_BYTES c = simp (eq-eqb _ _ (c.if-length-ne-CHECKED_WORDS.false), eq-eqb _ _ (c.if-length-ne-UNCHECKED_WORDS.false), lt-ltb _ _ c.if-image-lt-IMAGE_BYTES.true)

pub returns-in-Some : goal.returns-in-Some
unfolding write_tests first_of
returns-in-Some c =
    let f = some-below checked_words (first_large c.args.«data».now) (sym c.first_large.ensures ∙ c.in-Some.is) in
    simp (
      sym f.0,
      eq-eqb _ _ (c.if-length-ne-CHECKED_WORDS.false),
      eq-eqb _ _ (c.if-length-ne-UNCHECKED_WORDS.false),
      le-ltb _ _ (c.if-image-lt-IMAGE_BYTES.false),
      lt-ltb _ _ f.1,
    )

pub returns-in-None : goal.returns-in-None
unfolding write_tests first_of
returns-in-None c =
    simp (
      eq-eqb _ _ (c.if-length-ne-CHECKED_WORDS.false),
      eq-eqb _ _ (c.if-length-ne-UNCHECKED_WORDS.false),
      le-ltb _ _ (c.if-image-lt-IMAGE_BYTES.false),
      le-ltb _ _ (none-below checked_words (first_large c.args.«data».now) (sym c.first_large.ensures ∙ c.in-None.is)),
    )
