-- The row of alpha as a position and a length is the row itself: for a row above 5, for a short image, and otherwise. Assumes nothing.
use mathlib.Core.Path.{◌≡◌, sym, ap}
use mathlib.Core.List.{List, []}
use native.Mathlib.Decide.{dec_le}
use native.Mathlib.Nat.{lt_of_not-le}
use native.Mathlib.Omega.{arith}
use Prim.Native.Nat.{ℕ, ◌+◌, ◌*◌, ◌≤◌}
use lib.ListN.{length, take, drop}
use borrow.Author.Tests.{lt-ltb, le-ltb}
use Rattle.map.specs.Map.{image_bytes}
use Rattle.eeprom.specs.Parts.{row_of}
use Rattle.eeprom.proofs.Parts.{row-past, row-short, row_is, row-long}
use Rattle.capi_cards.specs.declared.Part.{Part}
use Rattle.capi_cards.specs.Border.{row_place}

abbrev part : ℕ → ℕ → Part
part s n = record { start = s; length = n }

-- an empty row
pub row-none : (image : List ℕ) (row : ℕ) → length (row_of image row) ≡ 0 → (part 0 0 ≡ row_place image row) × ([] ≡ row_of image row)
unfolding row_place
row-none image row e = elim (dec_le row 5) [
  | no f ↦ let h = lt_of_not-le f in (rw (lt-ltb 5 row h), sym (row-past image row h))
  | yes h ↦ elim (dec_le image_bytes (length image)) [
    | no f ↦ let l = lt_of_not-le f in (rw (le-ltb 5 row h, lt-ltb (length image) image_bytes l), sym (row-short image row h l))
    | yes l ↦ absurd (let q = row-long image row h l in let z : ⊥ = omega arith in z)
  ]
]

-- a row that is not empty: it is one of six
module _ (image : List ℕ) (row : ℕ) (n : length (row_of image row) ≡ 0 → ⊥) where
  pub row_low : row ≤ 5
  row_low = elim (dec_le row 5) [
    | no f ↦ absurd (n (ap length (row-past image row (lt_of_not-le f))))
    | yes h ↦ h
  ]

  row-whole : image_bytes ≤ length image
  row-whole = elim (dec_le image_bytes (length image)) [
    | no f ↦ absurd (n (ap length (row-short image row row_low (lt_of_not-le f))))
    | yes l ↦ l
  ]

  pub row-some : (part (512 + row * 64) (length (row_of image row)) ≡ row_place image row) × (take (length (row_of image row)) (drop (512 + row * 64) image) ≡ row_of image row)
  unfolding row_place
  row-some =
      let e = row-long image row row_low row-whole in
      (rw (e, le-ltb 5 row row_low, le-ltb (length image) image_bytes row-whole), rw e (sym (row_is image row row_low row-whole)))
