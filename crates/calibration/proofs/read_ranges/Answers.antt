-- `calibration::read_ranges` meets its contract: the cursor is at each word in turn, and each K_sTo is divided by 2 to the power in word 52.
-- Assumes nothing.
use mathlib.Core.Path.{◌≡◌, ap, ap₂, ◌∙◌}
use Prim.Native.Nat.{ℕ, ◌<◌}
use native.Mathlib.Omega.{arith}
use lib.IntN.{pos}
use lib.Signed.{mag}
use Rattle.util.proofs.Range.{back16}
use Rattle.map.proofs.Words.{places, ranges}
use Rattle.card.specs.Inner.{at, scaled_at}
use Rattle.card.specs.declared.Field.{Field}
use lib.Ieee.{Float}
use Rattle.calibration.specs.declared.Range.{Range}
use Rattle.calibration.specs.Calibration.{ranges_of}
use Rattle.calibration.specs.Inner.{range_at}
use Rattle.calibration.proofs.read_ranges.Goals as goal

pub returns : goal.returns
unfolding ranges_of
returns c =
    let v = c.args.words.now in
    let w = at v in
    let p = c.plain-scale.ensures in
    let small : (k : ℕ) → mag (pos (w k)) < 32768 = λ k. let h = c.requires k in omega arith in
    let at53 : c.scaled-k0.result ≡ scaled_at v (w 52) 53 = c.scaled-k0.ensures ∙ ap (λ (r : Field ℕ). scaled_at v r.value r.next.word) p in
    let at54 : c.scaled-k1.result ≡ scaled_at v (w 52) 54 = c.scaled-k1.ensures ∙ ap₂ (λ (q : Field ℕ) (r : Field Float). scaled_at v q.value r.next.word) p at53 in
    let at55 : c.scaled-k2.result ≡ scaled_at v (w 52) 55 = c.scaled-k2.ensures ∙ ap₂ (λ (q : Field ℕ) (r : Field Float). scaled_at v q.value r.next.word) p at54 in
    let at56 : c.scaled-k3.result ≡ scaled_at v (w 52) 56 = c.scaled-k3.ensures ∙ ap₂ (λ (q : Field ℕ) (r : Field Float). scaled_at v q.value r.next.word) p at55 in
    let at57 : c.scaled-k4.result ≡ scaled_at v (w 52) 57 = c.scaled-k4.ensures ∙ ap₂ (λ (q : Field ℕ) (r : Field Float). scaled_at v q.value r.next.word) p at56 in
    let at58 : c.read_range-r5.result ≡ range_at v (w 52) 58 = c.read_range-r5.ensures ∙ ap₂ (λ (q : Field ℕ) (r : Field Float). range_at v q.value r.next.word) p at57 in
    let at60 : c.read_range-r6.result ≡ range_at v (w 52) 60 = c.read_range-r6.ensures ∙ ap₂ (λ (q : Field ℕ) (r : Range). range_at v q.value r.next.word) p at58 in
    let at62 : c.read_range-r7.result ≡ range_at v (w 52) 62 = c.read_range-r7.ensures ∙ ap₂ (λ (q : Field ℕ) (r : Range). range_at v q.value r.next.word) p at60 in
    rw (
      at53,
      at54,
      at55,
      at56,
      at57,
      at58,
      at60,
      at62,
      back16 (pos (w 58)) (small 58),
      back16 (pos (w 60)) (small 60),
      back16 (pos (w 62)) (small 62),
      places.k_s_to_scale,
      ranges.0,
      ranges.1,
      ranges.2,
      ranges.3,
      ranges.4,
      ranges.5,
      ranges.6,
      ranges.7,
      ranges.8,
      ranges.9,
      ranges.10,
    )
