-- Every reading of the list holds, computed from the definitions as they stand. Assumes nothing.
use mathlib.Core.Path.{refl}
use lib.Count.{count_trailing_zeros}
use lib.IntN.{pos}
use lib.Ieee.{of_int, of_bits, of_fields, round, size, span, climb, units, odd, neg, sum, add, sub, div}
use Rattle.lists.specs.All.{All, none, ◌also◌}
use Rattle.floats.specs.Floats.{power_of_two}
use Rattle.util.specs.Fields.{signed, minus}
use Rattle.mlx90640.specs.Corrections.{corrections_of, pattern_of}
use Rattle.mlx90640.specs.Pixels.{chessboard_at}
use Rattle.sums640.specs.Sums.{scaled, coefficient_at, row_sum_at, column_at, base_at, offset_at, alpha_base_at, alpha_rest_at, average_at, k_ta_sum_at}
use Rattle.record640.specs.Record.{calibration_of, k_v_dd_of, v_dd25_of, k_v_ptat, k_t_ptat, alpha_ptat_of, offset_cps_of, gradient_of, k_s_tos, corners_at, corners_of}
use Rattle.load640.specs.Readings.{Holds, supply, ambient, alphaPtat, access, slopes, rows, rests, readings}

-- ---- readings with more than one claim

volts : Holds (supply 0x9D68 (minus 3168) (minus 13056))
unfolding calibration_of k_v_dd_of v_dd25_of signed
volts = (refl, refl)

lowest : Holds (supply 0x80FF (minus 4096) (minus 8224))
unfolding calibration_of k_v_dd_of v_dd25_of signed
lowest = (refl, refl)

ptat : Holds (ambient 0x5952 (pos 22) (pos 169))
unfolding calibration_of k_v_ptat k_t_ptat signed power_of_two div of_int round size span climb units odd count_trailing_zeros
ptat = ((refl, refl), (refl, refl))

eight : Holds (alphaPtat 0x3000 (pos 8))
unfolding calibration_of alpha_ptat_of power_of_two div of_int round size span climb units odd count_trailing_zeros
eight = (refl, refl)

nine : Holds (alphaPtat 0x4000 (pos 9))
unfolding calibration_of alpha_ptat_of power_of_two div of_int round size span climb units odd count_trailing_zeros
nine = (refl, refl)

eleven : Holds (alphaPtat 0xF000 (pos 11))
unfolding calibration_of alpha_ptat_of power_of_two div of_int round size span climb units odd count_trailing_zeros
eleven = (refl, refl)

pattern : Holds (access 0x0841 (pos 1) (pos 3) (pos 5) (pos 1))
unfolding calibration_of corrections_of pattern_of signed power_of_two neg sub add sum div of_int round size span climb units odd count_trailing_zeros
pattern = ((refl, refl), (refl, refl), (refl, refl), (refl, refl), (refl, refl), (refl, refl), (refl, refl))

least-scale : Holds (slopes 0x0201 0x0000 (pos 1) (pos 2) 8)
unfolding calibration_of k_s_tos signed power_of_two div of_int round size span climb units odd count_trailing_zeros
least-scale = ((refl, refl), (refl, refl))

own-scale : Holds (slopes 0x0201 0x2889 (pos 1) (pos 2) 17)
unfolding calibration_of k_s_tos signed power_of_two div of_int round size span climb units odd count_trailing_zeros
own-scale = ((refl, refl), (refl, refl))

nibbles : Holds (rows 0x4321 (pos 1) (pos 2) (pos 3) (pos 4))
unfolding offset_at alpha_base_at base_at row_sum_at column_at coefficient_at scaled signed
nibbles = (refl, refl, refl, refl, refl, refl, refl, refl)

all-minus : Holds (rests 0xFFFE (minus 1) (minus 1) (minus 1))
unfolding offset_at alpha_rest_at k_ta_sum_at average_at chessboard_at base_at row_sum_at column_at coefficient_at scaled signed
all-minus = (refl, refl, refl)

bit-0-not-read : Holds (rests 0x0011 (pos 0) (pos 1) (pos 0))
unfolding offset_at alpha_rest_at k_ta_sum_at average_at chessboard_at base_at row_sum_at column_at coefficient_at scaled signed
bit-0-not-read = (refl, refl, refl)

mixed : Holds (rests 0x041E (pos 1) (pos 1) (minus 1))
unfolding offset_at alpha_rest_at k_ta_sum_at average_at chessboard_at base_at row_sum_at column_at coefficient_at scaled signed
mixed = (refl, refl, refl)

-- ---- all readings

pub claim : All Holds readings
unfolding calibration_of offset_cps_of gradient_of corners_at corners_of signed power_of_two of_bits of_fields div of_int round size span climb units odd count_trailing_zeros
claim =
    volts also lowest also ptat also eight also nine also eleven also pattern also refl also least-scale also own-scale
    also refl also refl also refl also refl also nibbles also all-minus also bit-0-not-read also mixed also none
