-- The promises of the C calls determine their results: the inner calls' results are unique, and C's are those, converted. Assumes nothing.
use Prim.Native.Nat.{ℕ}
use mathlib.Core.Path.{◌≡◌, ap, sym, ◌∙◌}
use mathlib.Core.List.{List}
use Rattle.eeprom.specs.Load.{Tables}
use Rattle.eeprom.proofs.Single as eeprom
use Rattle.listing.specs.Index.{Lists}
use Rattle.listing.proofs.Single as listing
use Rattle.writer.proofs.Single as writer
use Rattle.capi_cards.specs.declared.Load.{Load}
use Rattle.capi_cards.specs.declared.Outcome.{Outcome}
use Rattle.capi_cards.specs.Border.{loaded_out, outcome_of, Loading, Writing, Reading}

pub single-loading : {image : List ℕ} {range : ℕ} {before x y : Tables} {r q : Load} → Loading image range before x r → Loading image range before y q → (r ≡ q) × (x ≡ y)
single-loading p s =
    let e = eeprom.single p.loads s.loads in
    (p.out ∙ ap loaded_out e.0 ∙ sym s.out, e.1)

pub single-writing : {from : Lists} {before x y : List ℕ} {r q : Outcome} → Writing from before x r → Writing from before y q → (r ≡ q) × (x ≡ y)
single-writing p s =
    let e = writer.single p.writes s.writes in
    (p.out ∙ ap outcome_of e.0 ∙ sym s.out, e.1)

pub single-reading : {image : List ℕ} {before x y : Lists} {r q : Outcome} → Reading image before x r → Reading image before y q → (r ≡ q) × (x ≡ y)
single-reading p s =
    let e = listing.single p.reads s.reads in
    (p.out ∙ ap outcome_of e.0 ∙ sym s.out, e.1)
