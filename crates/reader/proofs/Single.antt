-- The contract of `take` determines its outcome: any two for the same state, piece, range and tables are equal in every part. Assumes nothing.
use Prim.Native.Nat.{ℕ}
use mathlib.Core.Path.{◌≡◌, sym, ap, ◌∙◌}
use mathlib.Core.List.{List}
use Rattle.eeprom.specs.Load.{Tables}
use Rattle.reader.specs.declared.Reading.{Reading}
use Rattle.reader.specs.declared.Taken.{Taken}
use Rattle.reader.specs.Calls.{After, after, takes}

pub single : (image : List ℕ) (reading : Reading) (piece : List ℕ) (range : ℕ) (before : Tables) {x y : List ℕ} {t u : Tables} {r q : Taken}
    → after x t r ≡ takes image reading piece range before → after y u q ≡ takes image reading piece range before → (x ≡ y) × (t ≡ u) × (r ≡ q)
single image reading piece range before p s =
    let e = p ∙ sym s in
    (ap (λ (a : After). a.image) e, ap (λ (a : After). a.lent) e, ap (λ (a : After). a.taken) e)
