-- A property of each of the first entries of a list, for any type of entry. Assumes nothing.
use Rattle.std.specs.Prelude.{ℕ, ◌<◌, List, get_or}

-- P k holds of entry k, for each k below n; an entry past the end of the list reads as z
pub record Each {A : Type 0} (P : ℕ → A → Type 0) (z : A) (d : List A) (n : ℕ) : Type 0 where
  pub at : (k : ℕ) → k < n → P k (get_or d k z)
