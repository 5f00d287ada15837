-- The MLX90640's paper, "When the gate says stop": 13 never holds, whatever the card says. Assumes nothing.
use Rattle.std.specs.Prelude.{ℕ, ◌<◌, ◌≡◌, List, Err}
use Rattle.refusal.specs.declared.Refusal.TheVariants.{ZeroFactor}
use Rattle.load640.specs.Load.{range_count, Tables, zero_range, load_verdict}

-- no range below a basic one has a coefficient that is divided by a zero
abbrev pub NoZero : Type 0
NoZero = (w : ℕ → ℕ) (range : ℕ) → range < range_count → zero_range w range ≡ range_count

-- so no load is refused for it
abbrev pub Never : Type 0
Never = (image : List ℕ) (range : ℕ) (t : Tables) (at : ℕ) → load_verdict image range t ≡ Err (ZeroFactor at) → ⊥
