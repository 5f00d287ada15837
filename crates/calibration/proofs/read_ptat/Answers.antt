-- `calibration::read_ptat` meets its contract: the cursor is at each word in turn. Assumes nothing.
use mathlib.Core.Path.{◌≡◌, ap, ◌∙◌}
use Rattle.map.proofs.Words.{places}
use Rattle.card.specs.Inner.{fraction_at, plain_at, scaled_at}
use Prim.Native.Nat.{ℕ}
use Rattle.card.specs.declared.Field.{Field}
use lib.Ieee.{Float}
use Rattle.calibration.specs.Calibration.{calibration_of}
use Rattle.calibration.proofs.read_ptat.Goals as goal

pub returns : goal.returns
unfolding calibration_of
returns c =
    let w = c.args.words.now in
    let at43 : c.scaled-k_v_ptat.result ≡ scaled_at w 12 43 = c.scaled-k_v_ptat.ensures ∙ ap (λ (r : Field Float). scaled_at w 12 r.next.word) c.scaled-k_t_ptat.ensures in
    let at44 : c.fraction-alpha_ptat.result ≡ fraction_at w 7 44 = c.fraction-alpha_ptat.ensures ∙ ap (λ (r : Field Float). fraction_at w 7 r.next.word) at43 in
    let at45 : c.plain-alpha_cp.result ≡ plain_at w 45 = c.plain-alpha_cp.ensures ∙ ap (λ (r : Field Float). plain_at w r.next.word) at44 in
    let at46 : c.plain-alpha_cp_scale.result ≡ plain_at w 46 = c.plain-alpha_cp_scale.ensures ∙ ap (λ (r : Field ℕ). plain_at w r.next.word) at45 in
    rw (
      c.fraction_of.ensures,
      c.scaled-k_t_ptat.ensures,
      at43,
      at44,
      at45,
      at46,
      places.k_t_ptat,
      places.k_v_ptat,
      places.alpha_ptat,
      places.alpha_cp,
      places.alpha_cp_scale,
    )
