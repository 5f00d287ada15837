-- Every reading of the list holds. All but the root are computed directly from the definitions. Assumes nothing.
use mathlib.Core.Path.{refl}
use lib.Count.{ones_in, count_trailing_zeros}
use lib.IntN.{pos}
use lib.Ieee.{of_int, round, size, span, climb, units, odd}
use Rattle.lists.specs.All.{All, none, ◌also◌}
use Rattle.lists.specs.First.{first_from}
use Rattle.util.specs.Fields.{minus, signed}
use Rattle.offsets.specs.Offsets.{offset_average}
use Rattle.hamming.specs.Word.{parity, with_four, encoded, codeword, place, decoded}
use Rattle.root.proofs.Readings.{root-of-81}
use Rattle.readings.specs.Readings.{Holds, enters, readings}

-- each offset is halfway between two f32, and rounds to the one whose last bit is even
down : Holds (enters (pos 16777217) (pos 16777216))
unfolding of_int round size span climb units odd count_trailing_zeros
down = (refl, refl)

up : Holds (enters (pos 16777219) (pos 16777220))
unfolding of_int round size span climb units odd count_trailing_zeros
up = (refl, refl)

minus-down : Holds (enters (minus 16777217) (minus 16777216))
unfolding of_int round size span climb units odd count_trailing_zeros
minus-down = (refl, refl)

minus-up : Holds (enters (minus 16777219) (minus 16777220))
unfolding of_int round size span climb units odd count_trailing_zeros
minus-up = (refl, refl)

pub claim : All Holds readings
unfolding encoded with_four parity ones_in codeword place decoded first_from signed offset_average
claim =
    refl also refl also refl also refl also refl also refl also refl also refl
    also refl also refl also refl also refl also root-of-81
    also down also up also minus-down also minus-up also none
