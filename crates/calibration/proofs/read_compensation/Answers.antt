-- `calibration::read_compensation` meets its contract: the cursor is at each word in turn. Assumes nothing.
use mathlib.Core.Path.{◌≡◌, ap, ◌∙◌}
use mir.Syntax.{w16}
use mir.Val.{to_z, of_z}
use mir.ValLaws.{to_z-of_z}
use Rattle.util.specs.Fields.{signed, combined}
use Rattle.map.proofs.Words.{places}
use Rattle.card.specs.Inner.{at, plain_at}
use Prim.Native.Nat.{ℕ}
use Rattle.card.specs.declared.Field.{Field}
use Rattle.calibration.specs.Calibration.{calibration_of}
use Rattle.calibration.proofs.read_compensation.Goals as goal

pub returns : goal.returns
unfolding calibration_of
returns c =
    let v = c.args.words.now in
    let w = at v in
    let at49 : c.plain-k_ta.result ≡ plain_at v 49 = c.plain-k_ta.ensures ∙ ap (λ (r : Field ℕ). plain_at v r.next.word) c.combined-offset.ensures in
    let at50 : c.plain-k_v.result ≡ plain_at v 50 = c.plain-k_v.ensures ∙ ap (λ (r : Field ℕ). plain_at v r.next.word) at49 in
    let at51 : c.plain-last.result ≡ plain_at v 51 = c.plain-last.ensures ∙ ap (λ (r : Field ℕ). plain_at v r.next.word) at50 in
    let offset : to_z w16 (of_z w16 c.i16_from_bits.result) ≡ signed 16 (combined (w 47) (w 48)) =
    to_z-of_z w16 c.i16_from_bits.result (record { sfits = c.i16_from_bits.type_inv }) ∙ c.i16_from_bits.ensures
    ∙ ap (λ (r : Field ℕ). signed 16 r.value) c.combined-offset.ensures in
    rw (
      offset,
      c.low_over.ensures,
      c.low_over-2.ensures,
      c.resolution_of.ensures,
      c.signed_over-gradient.ensures,
      at49,
      at50,
      at51,
      places.offset_cp.0,
      places.offset_cp.1,
      places.k_ta_cp,
      places.k_v_cp,
      places.gradient,
    )
