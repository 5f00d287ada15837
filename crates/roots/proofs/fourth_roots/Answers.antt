-- `roots::fourth_roots` meets its contract: a root that the guesses leave open is computed on its own. Assumes nothing.
use Rattle.std.proofs.Common.{arith}
use Rattle.roots.proofs.fourth_roots.Goals as goal

pub returns-else-guessed-gt0 : goal.returns-else-guessed-gt0
returns-else-guessed-gt0 c = c.guessed.ensures.guessed.all (omega arith)
