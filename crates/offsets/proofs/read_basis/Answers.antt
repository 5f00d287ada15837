-- `offsets::read_basis` meets its contract: the cursor is at words 16, 17 and 18 in turn. Assumes nothing.
use mathlib.Core.Path.{◌≡◌, ap, ◌∙◌}
use mir.Syntax.{w16}
use mir.ValLaws.{to_z-of_z}
use Rattle.map.proofs.Words.{places}
use Rattle.card.specs.Inner.{plain_at}
use Prim.Native.Nat.{ℕ}
use Rattle.card.specs.declared.Field.{Field}
use Rattle.util.specs.declared.Pair.{Pair}
use Rattle.offsets.specs.Offsets.{offset_scale, average_of}
use Rattle.offsets.specs.Inner.{basis_of}
use Rattle.offsets.proofs.read_basis.Goals as goal

pub returns : goal.returns
unfolding basis_of offset_scale average_of
returns c =
    let w = c.args.words.now in
    let upper : c.plain-upper.result ≡ plain_at w 17 = c.plain-upper.ensures ∙ ap (λ (r : Field Pair). plain_at w r.next.word) c.split-scale.ensures in
    let lower : c.plain-lower.result ≡ plain_at w 18 = c.plain-lower.ensures ∙ ap (λ (r : Field ℕ). plain_at w r.next.word) upper in
    rw (
      c.split-scale.ensures,
      to_z-of_z w16 c.offset_average.result (record { sfits = c.offset_average.type_inv }),
      c.offset_average.ensures,
      upper,
      lower,
      places.offset_scale,
      places.offset_average.0,
      places.offset_average.1,
    )
