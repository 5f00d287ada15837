-- The contract of `load` determines its result: any two results for the same image, basic range and tables are equal in every part. Assumes nothing.
use Prim.Native.Nat.{ℕ}
use mathlib.Core.Path.{◌≡◌, sym, ◌∙◌}
use mathlib.Core.List.{List}
use Rattle.std.specs.Prelude.{Result}
use Rattle.refusal.specs.declared.Refusal.{Refusal}
use Rattle.eeprom.specs.declared.Loaded.{Loaded}
use Rattle.eeprom.specs.Load.{Tables, Loads}

pub single : {image : List ℕ} {range : ℕ} {before x y : Tables} {r q : Result Loaded Refusal} → Loads image range before x r → Loads image range before y q → (r ≡ q) × (x ≡ y)
single p s = (p.result ∙ sym s.result, p.lent ∙ sym s.lent)
