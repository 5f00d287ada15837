-- `root::twice` meets its contract: the significands of two roots, one after the other. Assumes nothing.
use Rattle.std.proofs.Common.{arith}
use Rattle.root.proofs.twice.Goals as goal

pub returns : goal.returns
returns c =
    record {
      q = c.significand-q.result;
      p = c.significand-p.result;
      first = c.significand-q.ensures;
      second = c.significand-p.ensures;
      sum = omega arith;
    }
