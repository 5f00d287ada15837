-- What the result of `check` implies about the word, and the bound on data. Callers need nothing else about these definitions.
-- Assumes nothing.
use Prim.Native.Nat.{ℕ, ◌<◌}
use mathlib.Core.Path.{◌≡◌, refl}
use mathlib.Core.Bool.{Bool, true, false}
use native.Mathlib.Nat.{mod-lt}
use lib.Dec.{lit<, ltb}
use Rattle.lists.specs.Pick.{pick}
use Rattle.hamming.specs.Word.{says, damaged, data_values, data_of, flip, codeword, place, mended, decoded, said_data}
use Rattle.hamming.specs.Answer.{mended_answer, check_answer, said_of}
use Rattle.std.specs.Prelude.{Ok}
use Rattle.hamming.specs.declared.Checked.TheVariants.{Clean}

-- ---- the data in the result of `check` are those that the word decodes to

placed : (w k : ℕ) (b : Bool) → ltb k 16 ≡ b → said_of (mended_answer w k) ≡ pick b (says (data_of (flip k w))) damaged
placed w k true e = rw e refl
placed w k false e = rw e refl

coded : (w k : ℕ) (b : Bool) → said_of (pick b (Ok (Clean (data_of w))) (mended_answer w k)) ≡ pick b (says (data_of w)) (mended w k)
coded w k true = refl
coded w k false = placed w k (ltb k 16) refl

pub check-says : (w : ℕ) → said_of (check_answer w) ≡ decoded w
unfolding check_answer decoded
check-says w = coded w (place w) (codeword w)

mended-lt : (w k : ℕ) (b : Bool) → said_data (pick b (says (data_of (flip k w))) damaged) < data_values
mended-lt w k true = mod-lt (flip k w) (lit< tt)
mended-lt w k false = lit< tt

by_code : (w : ℕ) (b : Bool) → said_data (pick b (says (data_of w)) (mended w (place w))) < data_values
by_code w true = mod-lt w (lit< tt)
by_code w false = mended-lt w (place w) (ltb (place w) 16)

pub data-lt : (w : ℕ) → said_data (decoded w) < data_values
unfolding decoded
data-lt w = by_code w (codeword w)
