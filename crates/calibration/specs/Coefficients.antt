-- Document 02, CR 9: the range coefficients of a card. They are the definitions that both cameras share, applied to the corner temperatures T and the
-- K_sTo of this card's eight ranges and to the basic range b. Assumes nothing.
use Rattle.std.specs.Prelude.{ℕ, List, [], ◌∷◌, Float}
use Rattle.ranges.specs.Coefficients as shared
use Rattle.calibration.specs.declared.Ranges.{Ranges}

-- the number of temperature ranges
abbrev pub range_count : ℕ
range_count = 8

-- the growth of range r: 1 + K × (T next - T own)
abbrev pub growth : Ranges → ℕ → Float
growth g r = shared.growth g.corner_temperatures g.k_s_to r

-- the coefficient of the range n above b: each is the one below it times the growth of that lower range
abbrev pub above : Ranges → ℕ → ℕ → Float
above g b n = shared.above g.corner_temperatures g.k_s_to b n

-- the coefficient of the range n below b: each is the one above it divided by its own growth
abbrev pub below : Ranges → ℕ → ℕ → Float
below g b n = shared.below g.corner_temperatures g.k_s_to b n

-- the coefficient of range r, which is 1 at b
abbrev pub coefficient_at : Ranges → ℕ → ℕ → Float
coefficient_at g b r = shared.coefficient_at g.corner_temperatures g.k_s_to b r

-- the coefficients of all eight ranges
abbrev pub coefficients_of : Ranges → ℕ → List Float
coefficients_of g b =
    let c = coefficient_at g b in
    c 0 ∷ c 1 ∷ c 2 ∷ c 3 ∷ c 4 ∷ c 5 ∷ c 6 ∷ c 7 ∷ []

-- the range nearest below b whose coefficient would be divided by zero; 8 if there is none
abbrev pub zero_factor : Ranges → ℕ → ℕ
zero_factor g b = shared.zero_factor range_count g.corner_temperatures g.k_s_to b
