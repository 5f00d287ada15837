-- `calibration::read_references` meets its contract: the cursor is at each word in turn. Assumes nothing.
use mathlib.Core.Path.{◌≡◌, ap, ◌∙◌}
use Rattle.map.proofs.Words.{places}
use Rattle.card.specs.Inner.{at, real_at, times32_at}
use Rattle.card.specs.declared.Field.{Field}
use lib.IntN.{ℤ}
use Rattle.card.proofs.Times.{times-back}
use Rattle.calibration.specs.Calibration.{calibration_of}
use Rattle.calibration.proofs.read_references.Goals as goal

pub returns : goal.returns
unfolding calibration_of
returns c =
    let v = c.args.words.now in
    let w = at v in
    let at39 : c.times_32-k_v_dd.result ≡ times32_at v 39 = c.times_32-k_v_dd.ensures ∙ ap (λ (r : Field ℤ). times32_at v r.next.word) c.times_32-v_dd_25.ensures in
    let at40 : c.real-v_ptat_25.result ≡ real_at v 40 = c.real-v_ptat_25.ensures ∙ ap (λ (r : Field ℤ). real_at v r.next.word) at39 in
    rw (
      c.times_32-v_dd_25.ensures,
      at39,
      at40,
      times-back (w 38),
      times-back (w 39),
      places.v_dd_25,
      places.k_v_dd,
      places.v_ptat_25.0,
      places.v_ptat_25.1,
    )
