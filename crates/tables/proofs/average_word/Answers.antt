-- `tables::average_word` meets its contract, for each coefficient. Assumes nothing.
use mathlib.Core.Path.{sym}
use Rattle.map.proofs.Words.{places}
use Rattle.tables.proofs.average_word.Goals as goal

pub returns-in-KTa : goal.returns-in-KTa
returns-in-KTa c = rw c.in-KTa.is (sym places.k_ta_average)

pub returns-in-KV : goal.returns-in-KV
returns-in-KV c = rw c.in-KV.is (sym places.k_v_average)
