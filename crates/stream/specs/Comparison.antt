-- What the comparison of a result with the expected answer has passed. Assumes nothing.
use Rattle.std.specs.Prelude.{◌≡◌, ◌≤◌, ℕ, ◌+◌, List, length, Option, Some, None}
use Rattle.std.specs.Float.{Float, binary32}
use Rattle.std.specs.Float.Ieee.{to_bits}
use Rattle.refusal.specs.declared.Told.{Told}
use Rattle.stream.specs.declared.expected.Expected.{Expected}
use Rattle.stream.specs.Blocks.{word_at, long_at}

-- the bytes of the expected answer
abbrev pub answer_of : Expected → List ℕ
answer_of expected = expected.bytes.now

-- how many of them agree so far
abbrev pub agreed_of : Expected → ℕ
agreed_of expected = expected.agreed

-- the comparison passes over so many more bytes of the same answer, which has them
pub record Passes (old new : Expected) (size : ℕ) : Type 0 where
  pub answer : answer_of new ≡ answer_of old
  pub agreed : agreed_of new ≡ agreed_of old + size
  pub within : agreed_of new ≤ length (answer_of new)

-- the words and longs of the answer, counted in bytes from the first that has not been passed
abbrev pub next_word : Expected → ℕ → ℕ
next_word expected behind = word_at (answer_of expected) (agreed_of expected + behind)

abbrev pub next_long : Expected → ℕ → ℕ
next_long expected behind = long_at (answer_of expected) (agreed_of expected + behind)

-- number, place and value of a refusal come next
pub record IsTold (expected : Expected) (told : Told) : Type 0 where
  pub number : next_long expected 0 ≡ told.number
  pub place : next_long expected 8 ≡ told.place
  pub value : next_long expected 16 ≡ told.value

-- 1 for a gradient, 0 for none
abbrev pub is_there : Option Float → ℕ
is_there (Some _) = 1
is_there None = 0

-- the bits of a gradient's coefficient, 0 for none
abbrev pub coefficient_bits : Option Float → ℕ
coefficient_bits (Some coefficient) = to_bits binary32 coefficient
coefficient_bits None = 0

-- a gradient comes next: 1 and its coefficient, or 0 and 0
pub record IsGradient (expected : Expected) (gradient : Option Float) : Type 0 where
  pub there : next_word expected 0 ≡ is_there gradient
  pub coefficient : next_word expected 4 ≡ coefficient_bits gradient
