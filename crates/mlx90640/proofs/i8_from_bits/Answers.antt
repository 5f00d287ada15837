-- `mlx90640::i8_from_bits` meets its contract: a signed field of up to eight bits fits an i8. Assumes nothing.
use mathlib.Core.Path.{◌≡◌, sym, ap, ◌∙◌, subst}
use native.Mathlib.Omega.{arith}
use lib.IntN.{ℤ}
use mir.Syntax.{w8, w16}
use mir.Val.{SFits, to_z, of_z}
use Rattle.util.specs.Fields.{signed}
use Rattle.util.proofs.Width.{signed_back}
use Rattle.mlx90640.proofs.Fields.{small, back}
use Rattle.mlx90640.proofs.i8_from_bits.Goals as goal
use Rattle.mlx90640.proofs.i8_from_bits.Goals.{After-i16_from_bits}

module _ (c : After-i16_from_bits) where
  value : to_z w16 (of_z w16 c.i16_from_bits.result) ≡ signed c.args.num_bits c.args.word
  value =
      let s = c in
      ap (λ (z : ℤ). to_z w16 (of_z w16 z)) (c.i16_from_bits.ensures ∙ ap (signed s.args.num_bits) c.wide.ensures)
      ∙ signed_back s.args.num_bits s.args.word s.requires.0 (omega (arith, s.requires.1))

pub overflow_cast-result : goal.overflow_cast-result
overflow_cast-result c =
    let s = c in
    subst (SFits w8) (sym (value c)) (record { sfits = small s.args.num_bits s.args.word s.requires.0 s.requires.1 })

pub returns : goal.returns
returns c = let s = c in back s.args.num_bits s.args.word _ s.requires.0 s.requires.1 (value c)
