-- `card::clean_ahead` meets its contract, for each of its results. Assumes nothing.
use borrow.Author.Rules.{rules}
use mathlib.Core.List.{List}
use Prim.Native.Nat.{ℕ, ◌+◌, ◌≤◌, ◌<◌}
use native.Mathlib.Omega.{arith}
use Rattle.map.specs.Map.{card_words}
use Rattle.card.specs.Inner.{Codewords, Clean}
use Rattle.card.proofs.clean_ahead.Goals as goal

some : {image : List ℕ} {word n : ℕ} → 0 < n → 24 ≤ word → word + n ≤ card_words → Codewords image word n → (0 < n) × Clean image word n
some l h w s = (l, record { from = λ z. h; within = w; codewords = s })

pub returns-then-are_codewords : goal.returns-then-are_codewords
returns-then-are_codewords c = some (omega arith) (search rules) (search rules) (c.are_codewords.ensures c.if-are_codewords.true)

pub returns-then-are_codewords-2 : goal.returns-then-are_codewords-2
returns-then-are_codewords-2 c = some (omega arith) (search rules) (search rules) (c.are_codewords-then-word-eq0.ensures c.if-are_codewords-2.true)

pub returns-then-are_codewords-3 : goal.returns-then-are_codewords-3
returns-then-are_codewords-3 c = some (omega arith) (search rules) (search rules) (c.are_codewords-2.ensures c.if-are_codewords-3.true)
