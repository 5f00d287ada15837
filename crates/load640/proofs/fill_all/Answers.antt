-- `load640::fill_all` meets its contract: it fills table after table. Assumes nothing.
use Rattle.load640.specs.Load.{filled_tables}
use Rattle.load640.proofs.fill_all.Goals as goal

pub returns-clause-k_ta_after : goal.returns-clause-k_ta_after
unfolding filled_tables
returns-clause-k_ta_after c = rw (c.fill_offsets.ensures, c.fill_alpha.ensures, c.fill_k_ta.ensures)
