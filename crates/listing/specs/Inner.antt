-- For inner functions only: storing one more word in a list. Assumes nothing.
use Rattle.std.specs.Prelude.{ℕ, Bool, List, set}
use Rattle.lists.specs.Pick.{pick}
use Rattle.listing.specs.Index.{list_index}

-- the list with this word's value at its index, if the word belongs to the list; else the list as it is
abbrev pub kept : (ℕ → Bool) → ℕ → ℕ → List ℕ → List ℕ
kept listed word value list = pick (listed word) (set list (list_index listed word) value) list
