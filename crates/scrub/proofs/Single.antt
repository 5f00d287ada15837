-- The contract of `scrub` determines its result. Assumes nothing.
use mathlib.Core.Path.{◌≡◌, sym, ◌∙◌}
use Rattle.std.specs.Prelude.{Result}
use Rattle.refusal.specs.declared.Refusal.{Refusal}
use Rattle.scrub.specs.declared.Counts.{Counts}
use Rattle.scrub.specs.Scrub.{Lent, Scrubs}

pub single : {before x y : Lent} {r q : Result Counts Refusal} → Scrubs before x r → Scrubs before y q → (r ≡ q) × (x ≡ y)
single p s = (p.result ∙ sym s.result, p.left ∙ sym s.left)
