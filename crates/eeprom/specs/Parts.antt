-- Document 01's two readers that refuse nothing: a row of alpha, and the offsets of a subpage. Assumes nothing.
use Rattle.std.specs.Prelude.{ℕ, ◌+◌, ◌*◌, List, [], ltb, ℤ, length, take, drop}
use Rattle.lists.specs.Pick.{pick}
use Rattle.map.specs.Map.{image_bytes, frame_pixels}
use Rattle.camera.specs.declared.Subpage.{Subpage}
use Rattle.camera.specs.declared.Subpage.TheVariants.{Zero, One}

-- the 64 bytes of a row of alpha, 0 to 5; empty for a higher row or a short image
unfoldable pub row_of : List ℕ → ℕ → List ℕ
row_of image row = pick (ltb 5 row) [] (pick (ltb (length image) image_bytes) [] (take 64 (drop (512 + row * 64) image)))

-- the first 192 entries of a table; empty if it is shorter
unfoldable pub first192 : List ℤ → List ℤ
first192 t = pick (ltb (length t) frame_pixels) [] (take frame_pixels t)

-- the first 192 entries of the table of the given subpage; empty if it is shorter
abbrev pub offsets_of : List ℤ → List ℤ → Subpage → List ℤ
offsets_of zero one Zero = first192 zero
offsets_of zero one One = first192 one
