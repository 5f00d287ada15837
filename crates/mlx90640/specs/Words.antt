-- How the MLX90640 splits its words. `signed` takes a width and reads the low bits. Assumes nothing.
use Rattle.std.specs.Prelude.{ℕ, ◌/◌, ◌%◌, ◌^◌, List, [], ◌∷◌, ℤ}
use Rattle.util.specs.Fields.{signed}
use Rattle.mlx90640.specs.declared.SixTen.{SixTen}

-- the upper six bits, signed, and the lower ten, unsigned
unfoldable pub six_ten : ℕ → SixTen
six_ten word = record { six = signed 6 (word / 2 ^ 10); ten = word % 2 ^ 10 }

-- four unsigned nibbles, from the top
unfoldable pub u4s : ℕ → List ℕ
u4s word = word / 2 ^ 12 % 16 ∷ word / 2 ^ 8 % 16 ∷ word / 2 ^ 4 % 16 ∷ word % 16 ∷ []

-- four signed nibbles, from the top
unfoldable pub i4s : ℕ → List ℤ
i4s word = signed 4 (word / 2 ^ 12) ∷ signed 4 (word / 2 ^ 8) ∷ signed 4 (word / 2 ^ 4) ∷ signed 4 word ∷ []
