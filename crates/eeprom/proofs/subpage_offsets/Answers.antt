-- `eeprom::subpage_offsets` meets its contract, for each subpage. Assumes nothing.
use Rattle.eeprom.proofs.subpage_offsets.Goals as goal

pub returns-in-Zero : goal.returns-in-Zero
returns-in-Zero c = rw c.in-Zero.is c.first_192.ensures

pub returns-in-One : goal.returns-in-One
returns-in-One c = rw c.in-One.is c.first_192-in-One.ensures
