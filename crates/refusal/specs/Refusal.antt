-- Number, place and value of each refusal, row by row: document 01, "When the gate says stop", document 02 and the MLX90640's paper. Assumes nothing.
use Rattle.std.specs.Prelude.{ℕ, ⊤, Result, Ok, Err}
use Rattle.refusal.specs.declared.Told.{Told}
use Rattle.refusal.specs.declared.Refusal.{Refusal}
use Rattle.refusal.specs.declared.Refusal.TheVariants.{ShortImage, ListLength, ShortTable, DamagedWord, LargeScale, LargePixel, BasicRange, SupplyRange, ZeroDivisor, DataTooLarge, ListedDataTooLarge, ShortFrame, UncheckedWord, UnorderedCorners, ZeroFactor, PixelNumber}

-- a status with the three given numbers
abbrev pub says : ℕ → ℕ → ℕ → Told
says number place value = record { number = number; place = place; value = value }

-- the status of each refusal
abbrev pub told_of : Refusal → Told
told_of (ShortImage length) = says 1 length 0
told_of (ListLength length) = says 1 length 0
told_of ShortTable = says 2 0 0
told_of (DamagedWord word bits) = says 3 word bits
told_of (LargeScale scale) = says 4 scale 0
told_of (LargePixel pixel) = says 5 pixel 0
told_of (BasicRange range) = says 6 range 0
told_of SupplyRange = says 7 0 0
told_of ZeroDivisor = says 8 0 0
told_of (DataTooLarge given) = says 9 given 0
told_of (ListedDataTooLarge index given) = says 9 index given
told_of (ShortFrame length) = says 10 length 0
told_of (UncheckedWord word) = says 11 word 0
told_of (UnorderedCorners corner) = says 12 corner 0
told_of (ZeroFactor range) = says 13 range 0
told_of (PixelNumber pixel) = says 14 pixel 0

-- the status of a verdict: that of its refusal, or 0, 0, 0 if nothing is refused
abbrev pub verdict_told : Result ⊤ Refusal → Told
verdict_told (Ok _) = says 0 0 0
verdict_told (Err refusal) = told_of refusal

-- `new` if nothing is refused, `old` after a refusal
abbrev pub unless : {A : Type 0} → Result ⊤ Refusal → A → A → A
unless (Ok _) new old = new
unless (Err refusal) new old = old

-- the answer of a call that gives a value: the value if nothing is refused, else the refusal
abbrev pub giving : {A : Type 0} → Result ⊤ Refusal → A → Result A Refusal
giving (Ok _) value = Ok value
giving (Err refusal) value = Err refusal
