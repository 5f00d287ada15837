-- Document 01, "Readings to try": those marked P, as one list. The average is that of document 02, CR 4; added are offsets that CR 10 rounds, ties to even.
-- Assumes nothing.
use Rattle.std.specs.Prelude.{ℕ, ◌≡◌, List, [], ◌∷◌, ℤ, pos}
use Rattle.floats.specs.Floats.{real}
use Rattle.floats.specs.Exact.{Exactly}
use Rattle.util.specs.Fields.{minus, signed, combined}
use Rattle.hamming.specs.Word.{encoded, decoded, says, damaged}
use Rattle.root.specs.Root.{root}
use Rattle.offsets.specs.Offsets.{offset_average}

-- the kinds of readings
pub data Reading : Type 0 where
  encodes : ℕ → ℕ → Reading
  decodes : ℕ → ℕ → Reading
  isDamaged : ℕ → Reading
  combines : ℕ → ℕ → ℕ → Reading
  is_signed : ℕ → ℕ → ℤ → Reading
  averages : ℕ → ℕ → ℤ → Reading
  roots : ℕ → ℕ → Reading
  enters : ℤ → ℤ → Reading

-- the statement of each kind of reading
abbrev pub Holds : Reading → Type 0
Holds (encodes d w) = encoded d ≡ w
Holds (decodes w d) = decoded w ≡ says d
Holds (isDamaged w) = decoded w ≡ damaged
Holds (combines upper lower n) = combined upper lower ≡ n
Holds (is_signed width n z) = signed width n ≡ z
Holds (averages upper lower z) = offset_average upper lower ≡ z
Holds (roots x r) = root (real (pos x)) ≡ real (pos r)
Holds (enters offset z) = Exactly (real offset) z 0

-- the readings
abbrev pub readings : List Reading
readings =
    encodes 0x001 0x9801
    ∷ encodes 0x003 0x3003
    ∷ encodes 0x400 0xFC00
    ∷ encodes 0x7FF 0xFFFF
    ∷ decodes 0x9800 1
    ∷ decodes 0x8000 0
    ∷ isDamaged 0x0003
    ∷ decodes 0x0007 7
    ∷ combines 1 0x020 32
    ∷ is_signed 11 0x400 (minus 1024)
    ∷ is_signed 11 0x3FF (pos 1023)
    ∷ averages 0x020 0 (pos 1024)
    ∷ roots 81 3
    ∷ enters (pos 16777217) (pos 16777216)
    ∷ enters (pos 16777219) (pos 16777220)
    ∷ enters (minus 16777217) (minus 16777216)
    ∷ enters (minus 16777219) (minus 16777220)
    ∷ []
