-- For inner functions only: what holds once the gate has passed. Assumes nothing.
use Rattle.std.specs.Prelude.{ℕ, ◌<◌, ◌≡◌, length, get_or}
use Rattle.hamming.specs.Word.{data_values}
use Rattle.map.specs.Map.{checked_words}
use Rattle.listing.specs.Index.{Lists, unchecked_words}

-- the lists have the lengths of a card's, and all data fit 11 bits
pub record Fit (from : Lists) : Type 0 where
  pub checked : length from.checked ≡ checked_words
  pub unchecked : length from.unchecked ≡ unchecked_words
  pub small : (index : ℕ) → index < checked_words → get_or from.checked index 0 < data_values
