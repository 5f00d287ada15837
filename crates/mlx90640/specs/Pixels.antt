-- The patterns over 32 by 24 pixels, row by row from 0: which entry a pixel takes. Assumes nothing.
use Rattle.std.specs.Prelude.{ℕ, ◌+◌, ◌*◌, ◌/◌, ◌%◌, Bool, List, [], ◌∷◌, eqb, ltb, get_or, Result, Ok, Err}
use Rattle.lists.specs.Pick.{pick}
use Rattle.refusal.specs.declared.Refusal.{Refusal}
use Rattle.refusal.specs.declared.Refusal.TheVariants.{PixelNumber}

abbrev pub width : ℕ
width = 32

abbrev pub height : ℕ
height = 24

abbrev pub row : ℕ → ℕ
row pixel = pixel / width

abbrev pub column : ℕ → ℕ
column pixel = pixel % width

abbrev pub even : ℕ → Bool
even n = eqb (n % 2) 0

-- of three entries, the one that each of four columns takes in turn
abbrev pub turns : List ℕ
turns = 0 ∷ 1 ∷ 0 ∷ 2 ∷ []

-- the six-entry pattern: an even row takes its turns from the first three entries, an odd one from the last three
unfoldable pub interleave_at : ℕ → ℕ
interleave_at pixel = pick (even (row pixel)) 0 3 + get_or turns (column pixel % 4) 0

-- the four-entry chessboard: 0 for an even row and an even column, 1 for an odd row and an even column, 2 for an even row and an odd column, 3 for both odd
unfoldable pub chessboard_at : ℕ → ℕ
chessboard_at pixel = pick (even (column pixel)) (pick (even (row pixel)) 0 1) (pick (even (row pixel)) 2 3)

-- a pixel's entry; a pixel number of 768 or more is refused by 14
unfoldable pub entry_of : ℕ → ℕ → Result ℕ Refusal
entry_of pixel at = pick (ltb pixel (width * height)) (Ok at) (Err (PixelNumber pixel))
