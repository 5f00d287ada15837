-- root(81) = 3, from the definitions, by computing both roots. Assumes nothing.
use Rattle.std.proofs.Common.{◌≡◌, pos, refl, ap, ◌∙◌, arith}
use lib.Ieee.{binary32, of_bits, of_int}
use Rattle.root.specs.Root.{field, magnitude, climb, root_pattern, root}
use Rattle.root.proofs.Values.{root-positive}

nine : root_pattern 0x42A20000 ≡ 0x41100000
unfolding root_pattern climb magnitude field
nine = refl

three : root_pattern 0x41100000 ≡ 0x40400000
unfolding root_pattern climb magnitude field
three = refl

eighty-one : of_int binary32 (pos 81) ≡ of_bits binary32 0x42A20000
unfolding of_int of_bits
eighty-one = refl

three_back : of_bits binary32 0x40400000 ≡ of_int binary32 (pos 3)
unfolding of_int of_bits
three_back = refl

pub root-of-81 : root (of_int binary32 (pos 81)) ≡ of_int binary32 (pos 3)
root-of-81 =
    ap root eighty-one
    ∙ root-positive 0x42A20000 (omega arith) (omega arith)
    ∙ ap (of_bits binary32) (ap root_pattern nine ∙ three)
    ∙ three_back
