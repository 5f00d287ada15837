-- The MLX90640's paper, "The map of 832 words", in reading order: the field of each word, and the words of each field. Assumes nothing.
use Rattle.std.specs.Prelude.{ℕ, ◌+◌, List, [], ◌∷◌, eqb}
use Rattle.lists.specs.Spans.{Span, upto, lookup, start_in}
use Rattle.map640.specs.declared.Field.{Field}
use Rattle.map640.specs.declared.Field.TheVariants.{NotRead, OffsetScales, OffsetAverage, OffsetRow, OffsetColumn, AlphaScales, AlphaAverage, AlphaRow, AlphaColumn, Gain, VPtat25, Ptat, VDd, KV, Access, KTaAverage, Scales, AlphaCp, OffsetCp, KCp, KSTa, KSTo, Corners, Pixel}

-- the map: each field with the number of the first word after it
abbrev pub spans : List (Span Field)
spans =
    upto 16 NotRead
    ∷ upto 17 OffsetScales
    ∷ upto 18 OffsetAverage
    ∷ upto 24 OffsetRow
    ∷ upto 32 OffsetColumn
    ∷ upto 33 AlphaScales
    ∷ upto 34 AlphaAverage
    ∷ upto 40 AlphaRow
    ∷ upto 48 AlphaColumn
    ∷ upto 49 Gain
    ∷ upto 50 VPtat25
    ∷ upto 51 Ptat
    ∷ upto 52 VDd
    ∷ upto 53 KV
    ∷ upto 54 Access
    ∷ upto 56 KTaAverage
    ∷ upto 57 Scales
    ∷ upto 58 AlphaCp
    ∷ upto 59 OffsetCp
    ∷ upto 60 KCp
    ∷ upto 61 KSTa
    ∷ upto 63 KSTo
    ∷ upto 64 Corners
    ∷ upto 832 Pixel
    ∷ []

-- the field of a word by its number
unfoldable pub field_of : ℕ → Field
field_of word = lookup NotRead spans word

-- a number for each field, by which fields are compared
abbrev tag : Field → ℕ
tag NotRead = 0
tag OffsetScales = 1
tag OffsetAverage = 2
tag OffsetRow = 3
tag OffsetColumn = 4
tag AlphaScales = 5
tag AlphaAverage = 6
tag AlphaRow = 7
tag AlphaColumn = 8
tag Gain = 9
tag VPtat25 = 10
tag Ptat = 11
tag VDd = 12
tag KV = 13
tag Access = 14
tag KTaAverage = 15
tag Scales = 16
tag AlphaCp = 17
tag OffsetCp = 18
tag KCp = 19
tag KSTa = 20
tag KSTo = 21
tag Corners = 22
tag Pixel = 23

-- the number of word k of a field, counted from 0: its first word in the map plus k
abbrev pub word_of : Field → ℕ → ℕ
word_of field k = start_in (λ other. eqb (tag field) (tag other)) spans 0 + k
