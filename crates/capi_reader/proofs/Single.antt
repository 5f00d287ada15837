-- The promise of `take` determines its result: two that it allows for the same arguments are equal, part by part. Assumes nothing.
use Prim.Native.Nat.{ℕ}
use mathlib.Core.Path.{◌≡◌, sym, ap, ◌∙◌}
use mathlib.Core.List.{List}
use Rattle.eeprom.specs.Load.{Tables}
use Rattle.capi_reader.specs.declared.Reader.{Reader}
use Rattle.capi_reader.specs.declared.Taken.{Taken}
use Rattle.capi_reader.specs.Border.{After, after, takes_out}

pub single : (image : List ℕ) (reader : Reader) (piece : List ℕ) (range : ℕ) (before : Tables) {x y : List ℕ} {t u : Tables} {r q : Taken}
    → after x t r ≡ takes_out image reader piece range before → after y u q ≡ takes_out image reader piece range before → (x ≡ y) × (t ≡ u) × (r ≡ q)
single image reader piece range before p s =
    let e = p ∙ sym s in
    (ap (λ (a : After). a.image) e, ap (λ (a : After). a.lent) e, ap (λ (a : After). a.taken) e)
