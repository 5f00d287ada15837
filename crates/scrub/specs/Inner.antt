-- For inner functions only: the state in which a word is found, and an image with that word mended. Assumes nothing.
use Rattle.std.specs.Prelude.{ℕ, ◌+◌, ◌*◌, ◌/◌, ◌%◌, List, set}
use Rattle.lists.specs.Pick.{pick}
use Rattle.card.specs.Card.{damaged_at}
use Rattle.scrub.specs.declared.Found.{Found}
use Rattle.scrub.specs.declared.Found.TheVariants.{Sound, Mended, Damaged}
use Rattle.scrub.specs.Scrub.{mended_at, code_at}

-- the state of a word: damaged, mended or neither
abbrev pub found_at : List ℕ → ℕ → Found
found_at image word = pick (damaged_at image word) Damaged (pick (mended_at image word) Mended Sound)

-- the image with this word replaced by its codeword, if it is mended; else the image as it is
abbrev pub word_mended : List ℕ → ℕ → List ℕ
word_mended image word =
    pick (mended_at image word) (set (set image (word * 2) (code_at image word / 256)) (word * 2 + 1) (code_at image word % 256)) image
