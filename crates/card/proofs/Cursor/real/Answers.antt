-- `card::Cursor::real` meets its contract: both words are in range. Assumes nothing.
use Rattle.card.proofs.Cursor.real.Goals as goal

pub returns : goal.returns
returns c = rw c.combined_real.ensures
