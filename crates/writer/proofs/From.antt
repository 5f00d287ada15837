-- The word from the lists, for a checked word and for any other. Assumes nothing.
use Prim.Native.Nat.{ℕ}
use mathlib.Core.Path.{◌≡◌, refl}
use mathlib.Core.Bool.{true, false}
use lib.ListN.{get_or}
use Rattle.hamming.specs.Word.{encoded}
use Rattle.map.specs.Map.{checked}
use Rattle.listing.specs.Index.{Lists, unchecked, list_index}
use Rattle.writer.specs.Write.{word_from}

module _ (from : Lists) (word : ℕ) where
  pub from-checked : checked word ≡ true → word_from from word ≡ encoded (get_or from.checked (list_index checked word) 0)
  unfolding word_from
  from-checked e = rw e refl

  pub from-unchecked : checked word ≡ false → word_from from word ≡ get_or from.unchecked (list_index unchecked word) 0
  unfolding word_from
  from-unchecked e = rw e refl
