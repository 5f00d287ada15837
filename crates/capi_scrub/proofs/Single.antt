-- The promise of the C call determines its result: the inner call's result is unique, and C's is that one, converted. Assumes nothing.
use mathlib.Core.Path.{◌≡◌, ap, sym, ◌∙◌}
use Rattle.scrub.specs.Scrub.{Lent}
use Rattle.scrub.proofs.Single as scrub
use Rattle.capi_scrub.specs.declared.Scrub.{Scrub}
use Rattle.capi_scrub.specs.Scrubbing.{scrubbed_out, Scrubbing}

pub single-scrubbing : {before x y : Lent} {r q : Scrub} → Scrubbing before x r → Scrubbing before y q → (r ≡ q) × (x ≡ y)
single-scrubbing p s =
    let e = scrub.single p.scrubs s.scrubs in
    (p.out ∙ ap scrubbed_out e.0 ∙ sym s.out, e.1)
