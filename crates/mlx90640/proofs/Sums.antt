-- The difference and the sum of any two corrections of five bits are exact, by one computed test over all pairs. Assumes nothing.
use mathlib.Core.Path.{refl}
use mathlib.Core.Bool.{Bool, true, false}
use Prim.Native.Nat.{ℕ, suc, ◌*◌, ◌^◌, ◌<◌}
use lib.Dec.{T, eqb, eqb→eq}
use lib.IntN.{ℤ, pos, negsuc, ◌+ℤ◌, ◌-ℤ◌, ◌*ℤ◌}
use lib.Ieee.{Float, nan, inf, fin, up, down, add, sub, div, of_int}
use Rattle.lists.proofs.Every.{both, both_left, both_right, every, at}
use Rattle.floats.specs.Floats.{power_of_two, over, ◌⊕◌, ◌⊖◌}
use Rattle.util.specs.Fields.{signed}
use Rattle.floats.specs.Exact.{Exactly}

-- whether x equals z / 2 ^ e
unfoldable pub valued : Float → ℤ → ℕ → Bool
valued nan z e = false
valued (inf t) z e = false
valued (fin false m d) (pos n) e = eqb (m * up d * 2 ^ e) (n * down d)
valued (fin true m d) (negsuc n) e = eqb (m * up d * 2 ^ e) (suc n * down d)
valued (fin true m d) (pos n) e = false
valued (fin false m d) (negsuc n) e = false

pub exactly : (x : Float) (z : ℤ) (e : ℕ) → T (valued x z e) → Exactly x z e
unfolding valued
exactly nan z e t = absurd t
exactly (inf s) z e t = absurd t
exactly (fin false m d) (pos n) e t = (refl, eqb→eq _ _ t)
exactly (fin true m d) (negsuc n) e t = (refl, eqb→eq _ _ t)
exactly (fin true m d) (pos n) e t = absurd t
exactly (fin false m d) (negsuc n) e t = absurd t

-- whether y - x and y + x are exact, for the corrections x and y of two fields
right : ℤ → Float → ℤ → Float → Bool
right three x two y = both (valued (y ⊖ x) (pos 4 *ℤ two -ℤ three) 3) (valued (y ⊕ x) (pos 4 *ℤ two +ℤ three) 3)

-- the test of one field against all 32 values of the other
row : ℕ → Bool
row three =
    let z = signed 5 three in
    let x = over z 3 in
    every (λ (two : ℕ). right z x (signed 5 two) (over (signed 5 two) 1)) 5 0

rows : (three : ℕ) → three < 32 → T (row three)
unfolding row right valued signed power_of_two add sub div of_int
rows three h = at row 5 tt three h

pair : (three two : ℕ) → three < 32 → two < 32 → T (right (signed 5 three) (over (signed 5 three) 3) (signed 5 two) (over (signed 5 two) 1))
unfolding row
pair three two h k = at (λ (n : ℕ). right (signed 5 three) (over (signed 5 three) 3) (signed 5 n) (over (signed 5 n) 1)) 5 (rows three h) two k

pub difference : (three two : ℕ) → three < 32 → two < 32 → Exactly (over (signed 5 two) 1 ⊖ over (signed 5 three) 3) (pos 4 *ℤ signed 5 two -ℤ signed 5 three) 3
unfolding right
difference three two h k = exactly _ _ 3 (both_left (valued _ _ 3) (valued _ _ 3) (pair three two h k))

pub total : (three two : ℕ) → three < 32 → two < 32 → Exactly (over (signed 5 two) 1 ⊕ over (signed 5 three) 3) (pos 4 *ℤ signed 5 two +ℤ signed 5 three) 3
unfolding right
total three two h k = exactly _ _ 3 (both_right (valued _ _ 3) (valued _ _ 3) (pair three two h k))
