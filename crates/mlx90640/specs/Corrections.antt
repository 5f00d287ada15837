-- The access pattern corrections, and the six-entry pattern that is made of two of them. `over` divides by a power of two; `neg` of a zero is the zero
-- of the other sign. Assumes nothing.
use Rattle.std.specs.Prelude.{ℕ, ◌/◌, ◌^◌, List, [], ◌∷◌, Float}
use Rattle.std.specs.Float.Ieee.{neg}
use Rattle.floats.specs.Floats.{over, ◌⊕◌, ◌⊖◌}
use Rattle.util.specs.Fields.{signed}
use Rattle.mlx90640.specs.declared.Corrections.{Corrections}

-- the corrections in a word. From the top: 5 bits divided by 8, 5 bits by 2, 6 bits by 16, all signed.
unfoldable pub corrections_of : ℕ → Corrections
corrections_of word = record {
  chess_3 = over (signed 5 (word / 2 ^ 11)) 3;
  chess_2 = over (signed 5 (word / 2 ^ 6)) 1;
  chess_1 = over (signed 6 word) 4;
}

-- the six-entry pattern -A, B, -C, A, -B, C, where A is factor 3, B is factor 2 less factor 3, and C is their sum
unfoldable pub pattern_of : Corrections → List Float
pattern_of corrections =
    let a = corrections.chess_3 in
    let b = corrections.chess_2 ⊖ corrections.chess_3 in
    let c = corrections.chess_2 ⊕ corrections.chess_3 in
    neg a ∷ b ∷ neg c ∷ a ∷ neg b ∷ c ∷ []
