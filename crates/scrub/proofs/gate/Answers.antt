-- `scrub::gate` meets its contract: each return is one line of the list of tests. Assumes nothing.
use borrow.Author.Tests.{lt-ltb, le-ltb}
use mathlib.Core.Path.{refl}
use Rattle.refusal.specs.Order.{first_of}
use Rattle.scrub.specs.Scrub.{scrub_tests}
use Rattle.scrub.proofs.gate.Goals as goal

pub returns-then-image-lt-IMAGE_BYTES : goal.returns-then-image-lt-IMAGE_BYTES
unfolding scrub_tests first_of
returns-then-image-lt-IMAGE_BYTES c = rw (lt-ltb _ _ (c.if-image-lt-IMAGE_BYTES.true)) refl

pub returns-then-changed-lt-CHECKED_WORDS : goal.returns-then-changed-lt-CHECKED_WORDS
unfolding scrub_tests first_of
returns-then-changed-lt-CHECKED_WORDS c = rw (le-ltb _ _ (c.if-image-lt-IMAGE_BYTES.false), lt-ltb _ _ (c.if-changed-lt-CHECKED_WORDS.true)) refl

pub returns-then-damaged-lt-CHECKED_WORDS : goal.returns-then-damaged-lt-CHECKED_WORDS
unfolding scrub_tests first_of
returns-then-damaged-lt-CHECKED_WORDS c = rw (le-ltb _ _ (c.if-image-lt-IMAGE_BYTES.false), le-ltb _ _ (c.if-changed-lt-CHECKED_WORDS.false), lt-ltb _ _ (c.if-damaged-lt-CHECKED_WORDS.true)) refl

pub returns : goal.returns
unfolding scrub_tests first_of
returns c = rw (le-ltb _ _ (c.if-image-lt-IMAGE_BYTES.false), le-ltb _ _ (c.if-changed-lt-CHECKED_WORDS.false), le-ltb _ _ (c.if-damaged-lt-CHECKED_WORDS.false)) refl
