use mathlib.Core.Path.{◌≡◌}
use mathlib.Core.List.{List}
use Prim.Native.Nat.{ℕ, ◌*◌, ◌-◌}
use Rattle.lists.proofs.Fill.{Filling}
use Rattle.map.specs.Map.{card_words, image_bytes, checked}
use Rattle.listing.specs.Index.{Lists, lists, list_index}
use Rattle.writer.specs.Write.{word_from, byte_of}
use Rattle.writer.proofs.put_words.Given as goal

-- the invariant: the words before `word` are written, and `before` of them are checked
pub record Putting (from : Lists) (image₀ image : List ℕ) (word before : ℕ) : Type 0 where
  pub put : Filling (byte_of (word_from from)) image_bytes image₀ image (word * 2)
  pub counted : before ≡ list_index checked word

abbrev pub invariant-loop-word : goal.invariant-loop-word
invariant-loop-word l = Putting (lists l.data l.others) l.initial.image l.image l.word l.before

abbrev pub decreases-loop-word : goal.decreases-loop-word
decreases-loop-word l = card_words - l.word
