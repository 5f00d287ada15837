-- Document 01, "The map of 832 words", in reading order: the role of each word, and the words of each field. Assumes nothing.
use Rattle.std.specs.Prelude.{ℕ, ◌+◌, ◌-◌, Bool, true, false, List, [], ◌∷◌, Option, None, Some, eqb, ltb}
use Rattle.lists.specs.Pick.{pick}
use Rattle.map.specs.declared.Field.{Field}
use Rattle.map.specs.declared.Field.TheVariants.{OffsetScale, OffsetAverage, KTaAverage, KTaScale, KVAverage, KVScale, RowScale, RowMaximum, KSTa, Emissivity, Gain, VDd25, KVDd, VPtat25, KTPtat, KVPtat, AlphaPtat, AlphaCp, AlphaCpScale, OffsetCp, KTaCp, KVCp, Gradient, KSToScale, KSTo, Corner, Offset0, Alpha, KPixel, Offset1}

-- the number of words of a card
abbrev pub card_words : ℕ
card_words = 832

-- the number of bytes of an image
abbrev pub image_bytes : ℕ
image_bytes = 1664

-- the number of checked words
abbrev pub checked_words : ℕ
checked_words = 814

-- the number of pixels of a frame, and of entries of a table
abbrev pub frame_pixels : ℕ
frame_pixels = 192

-- a span: the words from the end of the span before it up to, not including, this number have this role
pub data Span : Type 0 where
  upto : ℕ → Option Field → Span

-- the role of a word: that of the first span whose end is above it; past all spans, unchecked
abbrev pub lookup : List Span → ℕ → Option Field
lookup [] w = None
lookup (upto n r ∷ es) w = pick (ltb w n) r (lookup es w)

-- the map: each field with the number of the first word after it
unfoldable pub spans : List Span
spans =
    upto 16 None
    ∷ upto 17 (Some OffsetScale)
    ∷ upto 19 (Some OffsetAverage)
    ∷ upto 21 None
    ∷ upto 22 (Some KTaAverage)
    ∷ upto 23 (Some KTaScale)
    ∷ upto 24 (Some KVAverage)
    ∷ upto 25 (Some KVScale)
    ∷ upto 28 (Some RowScale)
    ∷ upto 34 (Some RowMaximum)
    ∷ upto 35 (Some KSTa)
    ∷ upto 36 (Some Emissivity)
    ∷ upto 38 (Some Gain)
    ∷ upto 39 (Some VDd25)
    ∷ upto 40 (Some KVDd)
    ∷ upto 42 (Some VPtat25)
    ∷ upto 43 (Some KTPtat)
    ∷ upto 44 (Some KVPtat)
    ∷ upto 45 (Some AlphaPtat)
    ∷ upto 46 (Some AlphaCp)
    ∷ upto 47 (Some AlphaCpScale)
    ∷ upto 49 (Some OffsetCp)
    ∷ upto 50 (Some KTaCp)
    ∷ upto 51 (Some KVCp)
    ∷ upto 52 (Some Gradient)
    ∷ upto 53 (Some KSToScale)
    ∷ upto 58 (Some KSTo)
    ∷ upto 59 (Some Corner)
    ∷ upto 60 (Some KSTo)
    ∷ upto 61 (Some Corner)
    ∷ upto 62 (Some KSTo)
    ∷ upto 63 (Some Corner)
    ∷ upto 64 (Some KSTo)
    ∷ upto 256 (Some Offset0)
    ∷ upto 448 (Some Alpha)
    ∷ upto 640 (Some KPixel)
    ∷ upto 832 (Some Offset1)
    ∷ []

-- the role of a word by its number
unfoldable pub role_of : ℕ → Option Field
role_of word = lookup spans word

-- whether words of this role are checked
abbrev pub is_checked : Option Field → Bool
is_checked None = false
is_checked (Some field) = true

-- whether a word is checked: all are but words 0 to 15, 19 and 20
unfoldable pub checked : ℕ → Bool
checked word = is_checked (role_of word)

-- ---- the words of a field

-- a number for each field, by which fields are compared
abbrev tag : Field → ℕ
tag OffsetScale = 0
tag OffsetAverage = 1
tag KTaAverage = 2
tag KTaScale = 3
tag KVAverage = 4
tag KVScale = 5
tag RowScale = 6
tag RowMaximum = 7
tag KSTa = 8
tag Emissivity = 9
tag Gain = 10
tag VDd25 = 11
tag KVDd = 12
tag VPtat25 = 13
tag KTPtat = 14
tag KVPtat = 15
tag AlphaPtat = 16
tag AlphaCp = 17
tag AlphaCpScale = 18
tag OffsetCp = 19
tag KTaCp = 20
tag KVCp = 21
tag Gradient = 22
tag KSToScale = 23
tag KSTo = 24
tag Corner = 25
tag Offset0 = 26
tag Alpha = 27
tag KPixel = 28
tag Offset1 = 29

-- the number of words of the field in a span from `from` up to n: all n - from if the span is of that field, else 0
abbrev pub words_of : Field → ℕ → ℕ → Option Field → ℕ
words_of field from n None = 0
words_of field from n (Some other) = pick (eqb (tag field) (tag other)) (n - from) 0

-- the number of word k of a field, counted from 0, in spans that start at `from`; 832 if there is no such word
abbrev pub word_in : List Span → ℕ → Field → ℕ → ℕ
word_in [] from field k = card_words
word_in (upto n r ∷ es) from field k =
    let here = words_of field from n r in
    pick (ltb k here) (from + k) (word_in es n field (k - here))

-- the number of word k of a field: the k-th, counted from 0, of the words that the map gives to it
unfoldable pub word_of : Field → ℕ → ℕ
word_of field k = word_in spans 0 field k
