-- The lengths of the parts. Assumes nothing.
use Prim.Native.Nat.{ℕ, min, ◌+◌, ◌*◌, ◌≤◌, ◌<◌}
use mathlib.Core.Path.{◌≡◌, ap, ◌∙◌}
use mathlib.Core.Bool.{Bool}
use mathlib.Core.List.{List, []}
use native.Mathlib.Omega.{arith}
use lib.IntN.{ℤ}
use lib.ListN.{length, take, drop, length-take, length-drop}
use borrow.Author.Tests.{lt-ltb, le-ltb}
use Rattle.lists.specs.Pick.{pick}
use Rattle.map.specs.Map.{image_bytes, frame_pixels}
use Rattle.camera.specs.declared.Subpage.{Subpage}
use Rattle.camera.specs.declared.Subpage.TheVariants.{Zero, One}
use Rattle.eeprom.specs.Parts.{row_of, first192, offsets_of}

-- the part of a table of at least 192 entries has 192 entries
first-long : (t : List ℤ) → frame_pixels ≤ length t → length (first192 t) ≡ frame_pixels
unfolding first192
first-long t h =
    ap (λ (b : Bool). length (pick b [] (take frame_pixels t))) (le-ltb (length t) frame_pixels h) ∙ length-take frame_pixels t
    ∙ (let e : min frame_pixels (length t) ≡ frame_pixels = omega arith in e)

pub offsets-long : (zero one : List ℤ) (s : Subpage) → frame_pixels ≤ length zero → frame_pixels ≤ length one → length (offsets_of zero one s) ≡ frame_pixels
offsets-long zero one Zero h k = first-long zero h
offsets-long zero one One h k = first-long one k

-- the part is empty for a row above 5
pub row-past : (image : List ℕ) (row : ℕ) → 5 < row → row_of image row ≡ []
unfolding row_of
row-past image row h = rw (lt-ltb 5 row h)

-- the part is empty if the image is too short
pub row-short : (image : List ℕ) (row : ℕ) → row ≤ 5 → length image < image_bytes → row_of image row ≡ []
unfolding row_of
row-short image row h l = rw (le-ltb 5 row h, lt-ltb (length image) image_bytes l)

-- else it is the 64 bytes of the row
pub row_is : (image : List ℕ) (row : ℕ) → row ≤ 5 → image_bytes ≤ length image → row_of image row ≡ take 64 (drop (512 + row * 64) image)
unfolding row_of
row_is image row h l = rw (le-ltb 5 row h, le-ltb (length image) image_bytes l)

pub row-long : (image : List ℕ) (row : ℕ) → row ≤ 5 → image_bytes ≤ length image → length (row_of image row) ≡ 64
row-long image row h l =
    ap length (row_is image row h l)
    ∙ (let a = length-take 64 (drop (512 + row * 64) image) in let b = length-drop (512 + row * 64) image in omega arith)
