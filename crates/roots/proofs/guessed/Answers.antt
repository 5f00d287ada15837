-- `roots::guessed` meets its contract: the patterns are those of the numbers. Assumes nothing.
use Rattle.std.proofs.Common.{arith}
use Rattle.roots.proofs.Open.{guesses}
use Rattle.roots.proofs.guessed.Goals as goal

pub returns : goal.returns
returns c =
    record {
      guessed = guesses _ _ _ c.patterns.ensures.bits_after (omega arith) c.patterns.ensures.each c.settled.ensures.leaves;
      roots_len_unchanged = omega arith;
    }
