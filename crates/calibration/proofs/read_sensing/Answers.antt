-- `calibration::read_sensing` meets its contract: the cursor is at each word in turn. Assumes nothing.
use mathlib.Core.Path.{◌≡◌, ap, ◌∙◌}
use Rattle.map.proofs.Words.{places}
use Rattle.card.specs.Inner.{real_at, scaled_at}
use Rattle.card.specs.declared.Field.{Field}
use lib.Ieee.{Float}
use Rattle.calibration.specs.Calibration.{calibration_of}
use Rattle.calibration.proofs.read_sensing.Goals as goal

pub returns : goal.returns
unfolding calibration_of
returns c =
    let w = c.args.words.now in
    let at35 : c.scaled-emissivity.result ≡ scaled_at w 9 35 = c.scaled-emissivity.ensures ∙ ap (λ (r : Field Float). scaled_at w 9 r.next.word) c.scaled-k_s_ta.ensures in
    let at36 : c.real-gain.result ≡ real_at w 36 = c.real-gain.ensures ∙ ap (λ (r : Field Float). real_at w r.next.word) at35 in
    rw (c.scaled-k_s_ta.ensures, at35, at36, places.k_s_ta, places.emissivity, places.gain.0, places.gain.1)
