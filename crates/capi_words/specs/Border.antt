-- Chip words as C has them, with a refusal as document 01's number, place and value. Assumes nothing.
use Rattle.std.specs.Prelude.{ℕ, Result, Ok, Err}
use Rattle.refusal.specs.declared.Refusal.{Refusal}
use Rattle.refusal.specs.Refusal.{told_of}
use Rattle.hamming.specs.declared.Checked.{Checked}
use Rattle.hamming.specs.declared.Checked.TheVariants.{Clean, Mended}
use Rattle.capi_words.specs.declared.Word.{Word}

-- the result of a refused call
abbrev pub refused_word : Refusal → Word
refused_word r = record { number = (told_of r).number; place = (told_of r).place; value = (told_of r).value; word = 0; mended = 0; bit = 0 }

-- the result of a call that is not refused
abbrev pub good_word : ℕ → ℕ → ℕ → Word
good_word word mended bit = record { number = 0; place = 0; value = 0; word = word; mended = mended; bit = bit }

-- the result of encoding
abbrev pub encoded_out : Result ℕ Refusal → Word
encoded_out (Ok w) = good_word w 0 0
encoded_out (Err r) = refused_word r

-- the result of checking a word
abbrev pub checked_out : Result Checked Refusal → Word
checked_out (Ok (Clean d)) = good_word d 0 0
checked_out (Ok (Mended d bit)) = good_word d 1 bit
checked_out (Err r) = refused_word r
