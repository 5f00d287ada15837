-- The results of `encode` and `check`. Assumes nothing.
use Rattle.std.specs.Prelude.{ℕ, ltb, Result, Ok, Err}
use Rattle.lists.specs.Pick.{pick}
use Rattle.refusal.specs.declared.Refusal.TheVariants.{DamagedWord, DataTooLarge}
use Rattle.hamming.specs.Word.{Said, says, damaged, data_values, data_of, encoded, codeword, flip, place}
use Rattle.refusal.specs.declared.Refusal.{Refusal}
use Rattle.hamming.specs.declared.Checked.{Checked}
use Rattle.hamming.specs.declared.Checked.TheVariants.{Clean, Mended}

-- the result of `encode`: the codeword of the data; data above 2047 are refused by 9
unfoldable pub encode_answer : ℕ → Result ℕ Refusal
encode_answer d = pick (ltb d data_values) (Ok (encoded d)) (Err (DataTooLarge d))

-- the result of checking a word w that is not a codeword: mended at bit k if k is below 16, else refused by 3 with place 0
abbrev pub mended_answer : ℕ → ℕ → Result Checked Refusal
mended_answer w k = pick (ltb k 16) (Ok (Mended (data_of (flip k w)) k)) (Err (DamagedWord 0 w))

-- the result of `check`: clean for a codeword, mended if flipping one bit makes it a codeword, else refused
unfoldable pub check_answer : ℕ → Result Checked Refusal
check_answer w = pick (codeword w) (Ok (Clean (data_of w))) (mended_answer w (place w))

-- the data in a result of `check`, clean or mended alike; `damaged` for a refusal
abbrev pub said_of : Result Checked Refusal → Said
said_of (Ok (Clean d)) = says d
said_of (Ok (Mended d k)) = says d
said_of (Err r) = damaged
