-- The MLX90640's odd parts as C has them: nibbles in a struct, the corrections with their pattern, a refusal by its number, place and value.
-- Assumes nothing.
use Rattle.std.specs.Prelude.{ℕ, List, ℤ, Result, Ok, Err}
use Rattle.refusal.specs.declared.Refusal.{Refusal}
use Rattle.refusal.specs.Refusal.{told_of}
use Rattle.mlx90640.specs.Corrections.{corrections_of, pattern_of}
use Rattle.capi_mlx90640.specs.declared.Unsigned.{Unsigned}
use Rattle.capi_mlx90640.specs.declared.Signed.{Signed}
use Rattle.capi_mlx90640.specs.declared.AccessPattern.{AccessPattern}
use Rattle.capi_mlx90640.specs.declared.PixelEntry.{PixelEntry}

abbrev pub unsigned_out : List ℕ → Unsigned
unsigned_out nibbles = record { nibbles = nibbles }

abbrev pub signed_out : List ℤ → Signed
signed_out nibbles = record { nibbles = nibbles }

abbrev pub access_pattern : ℕ → AccessPattern
access_pattern word = record {
  chess_3 = (corrections_of word).chess_3;
  chess_2 = (corrections_of word).chess_2;
  chess_1 = (corrections_of word).chess_1;
  pattern = pattern_of (corrections_of word);
}

abbrev pub entry_out : Result ℕ Refusal → PixelEntry
entry_out (Ok k) = record { number = 0; place = 0; value = 0; entry = k }
entry_out (Err r) = record { number = (told_of r).number; place = (told_of r).place; value = (told_of r).value; entry = 0 }
