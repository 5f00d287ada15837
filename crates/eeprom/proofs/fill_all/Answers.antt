-- `eeprom::fill_all` meets its contract: table after table. Assumes nothing.
use Rattle.eeprom.specs.Load.{filled_tables}
use Rattle.eeprom.proofs.fill_all.Goals as goal

pub returns-clause-k_ta_after : goal.returns-clause-k_ta_after
unfolding filled_tables
returns-clause-k_ta_after c =
    rw (c.fill_offsets.ensures, c.fill_offsets-2.ensures, c.fill_alpha.ensures, c.fill_k.ensures, c.fill_k-2.ensures)
