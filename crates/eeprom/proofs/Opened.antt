-- What holds once the gate of a load has passed. Assumes nothing.
use Prim.Native.Nat.{ℕ, min, ◌≤◌}
use mathlib.Core.Path.{◌≡◌, refl}
use mathlib.Core.List.{List}
use native.Mathlib.Omega.{arith}
use borrow.Author.Tests.{ltb-false, leb-false}
use Rattle.std.specs.Prelude.{⊤, Result, Ok, Err}
use Rattle.refusal.specs.declared.Refusal.{Refusal}
use Rattle.refusal.proofs.Order.{passed}
use Rattle.map.specs.Map.{frame_pixels}
use Rattle.card.specs.Card.{data_at}
use Rattle.card.proofs.Data.{data-lt}
use Rattle.eeprom.specs.Load.{Tables, giving, data_tests, load_tests, load_verdict}
use Rattle.eeprom.specs.Inner.{Passed}

-- a value that is given: nothing was refused, and it is the value
pub given : {A : Type 0} (v : Result ⊤ Refusal) (x y : A) → ◌≡◌ {A = Result A Refusal} (Ok x) (giving v y) → (v ≡ Ok tt) × (x ≡ y)
given (Ok _) x y e = (refl, same x y e)
  where
    same : {A : Type 0} (x y : A) → ◌≡◌ {A = Result A Refusal} (Ok x) (Ok y) → x ≡ y
    same x y e = cc
given (Err refusal) x y e = absurd (let z : ◌≡◌ {A = ℕ} 0 1 = cc in let q : ⊥ = omega arith in q)

pub opened : (image : List ℕ) (range : ℕ) (t : Tables) → load_verdict image range t ≡ Ok tt → Passed (data_at image) range t
unfolding load_tests data_tests
opened image range t e =
    let p = passed _ _ _ e in
    let q = passed _ _ _ p.1 in
    let r = passed _ _ _ q.1 in
    let s = passed _ _ _ r.1 in
    let b = passed _ _ _ s.1 in
    record {
      small = data-lt image;
      scale = leb-false _ _ s.0;
      inside = leb-false _ _ b.0;
      long = ltb-false _ _ q.0;
    }

pub each : (a b c d e : ℕ) → frame_pixels ≤ min (min a b) (min c (min d e)) → (frame_pixels ≤ a) × (frame_pixels ≤ b) × (frame_pixels ≤ c) × (frame_pixels ≤ d) × (frame_pixels ≤ e)
each a b c d e h = (omega arith, omega arith, omega arith, omega arith, omega arith)
