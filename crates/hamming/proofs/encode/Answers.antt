-- `hamming::encode` meets its contract, for data up to 2047 and above. Assumes nothing.
use borrow.Author.Tests.{lt-ltb, le-ltb}
use Rattle.hamming.specs.Answer.{encode_answer}
use Rattle.hamming.proofs.encode.Goals as goal

pub returns-then-data-lt-DATA_VALUES : goal.returns-then-data-lt-DATA_VALUES
unfolding encode_answer
returns-then-data-lt-DATA_VALUES c = simp (lt-ltb _ _ c.if-data-lt-DATA_VALUES.true, c.with_checks.ensures)

pub returns-else-data-lt-DATA_VALUES : goal.returns-else-data-lt-DATA_VALUES
unfolding encode_answer
returns-else-data-lt-DATA_VALUES c = simp (le-ltb _ _ c.if-data-lt-DATA_VALUES.false)
