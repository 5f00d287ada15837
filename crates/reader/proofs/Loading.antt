-- The result and tables of `loaded_of` and `lent_after` are those of the contract of a load. Assumes nothing.
use Prim.Native.Nat.{ℕ}
use mathlib.Core.Path.{◌≡◌, refl}
use mathlib.Core.List.{List}
use Rattle.std.specs.Prelude.{Result}
use Rattle.refusal.specs.declared.Refusal.{Refusal}
use Rattle.eeprom.specs.declared.Loaded.{Loaded}
use Rattle.eeprom.specs.Load.{Tables, Loads}
use Rattle.eeprom.proofs.Single.{single}
use Rattle.reader.specs.Calls.{loaded_of, lent_after}

pub loads : (image : List ℕ) (range : ℕ) (t : Tables) → Loads image range t (lent_after image range t) (loaded_of image range t)
unfolding loaded_of lent_after
loads image range t = record { result = refl; lent = refl }

pub load_is : {image : List ℕ} {range : ℕ} {t u : Tables} {r : Result Loaded Refusal} → Loads image range t u r → (r ≡ loaded_of image range t) × (u ≡ lent_after image range t)
load_is {image} {range} {t} l = single l (loads image range t)
