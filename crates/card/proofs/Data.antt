-- The data of an image: their bound, their value past the card, and that `decode` stores them at every word number. Assumes nothing.
use Prim.Native.Nat.{ℕ, ◌≤◌, ◌<◌}
use mathlib.Core.Path.{◌≡◌, refl, sym, ap, ◌∙◌, fun_ext}
use mathlib.Core.Bool.{Bool, true, false, not, true≢false}
use mathlib.Core.List.{List}
use native.Mathlib.Decide.{dec_le}
use native.Mathlib.Nat.{lt_of_not-le, le_of_eq}
use native.Mathlib.Omega.{arith}
use lib.Dec.{lit<}
use lib.ListN.{length, get_or-eq_default}
use Rattle.std.specs.Prelude.{Option, None, Some}
use Rattle.std.proofs.lemmas.Option.{none-some}
use Rattle.lists.specs.Pick.{pick}
use Rattle.lists.specs.Written.{filled}
use Rattle.lists.proofs.First.{is-first}
use Rattle.lists.proofs.Written.{written_at, length-written}
use Rattle.util.specs.Words.{word_at}
use Rattle.hamming.specs.Word.{Said, says, damaged, data_values, is_said, decoded, said_data}
use Rattle.hamming.proofs.Answers as answers
use Rattle.map.specs.Map.{card_words, checked}
use Rattle.map.proofs.Spans.{unchecked-past}
use Rattle.card.specs.Card.{read_at, data_at, damaged_at, first_damaged, stray_at}
use Rattle.card.specs.Inner.{read_of, at}
use Rattle.card.specs.declared.Read.{Read}

-- if a word decodes to d, it is not damaged and its data are d
module _ (image : List ℕ) (word d : ℕ) (e : read_at image word ≡ says d) where
  pub not-damaged : damaged_at image word ≡ false
  unfolding damaged_at
  not-damaged = ap (λ (s : Said). not (is_said s)) e

  pub data_is : d ≡ data_at image word
  unfolding data_at
  data_is = sym (ap said_data e)

-- what `read_word` read says of the word; it reads nothing of a damaged word
module _ (image : List ℕ) (word : ℕ) where
  some_of : (b : Bool) (r q : Read) → Some r ≡ pick b None (Some q) → (b ≡ false) × (r ≡ q)
  some_of true r q e = absurd (none-some r (sym e))
  some_of false r q e = (refl, cc e)

  none_of : (b : Bool) (q : Read) → ◌≡◌ {A = Option Read} None (pick b None (Some q)) → b ≡ true
  none_of true q e = refl
  none_of false q e = absurd (none-some q e)

  pub was-read : {r : Read} → Some r ≡ read_of image word → (damaged_at image word ≡ false) × (r ≡ record { value = data_at image word; stray = stray_at image word })
  was-read {r} e = some_of (damaged_at image word) r (record { value = data_at image word; stray = stray_at image word }) e

  pub was-damaged : ◌≡◌ {A = Option Read} None (read_of image word) → damaged_at image word ≡ true
  was-damaged e = none_of (damaged_at image word) (record { value = data_at image word; stray = stray_at image word }) e

-- `read_of` of a checked word is its decoding; of any other word it is data 0
pub read-checked : (image : List ℕ) (word : ℕ) → checked word ≡ true → read_at image word ≡ decoded (word_at image word)
unfolding read_at
read-checked image word e = rw e refl

pub read-unchecked : (image : List ℕ) (word : ℕ) → checked word ≡ false → read_at image word ≡ says 0
unfolding read_at
read-unchecked image word e = rw e refl

said_of : (s : Said) → not (is_said s) ≡ false → s ≡ says (said_data s)
said_of (says d) e = refl
said_of damaged e = absurd (true≢false e)

-- `read_of` of a word that is not damaged has its data
pub says-data : (image : List ℕ) (word : ℕ) → damaged_at image word ≡ false → read_at image word ≡ says (data_at image word)
unfolding damaged_at data_at
says-data image word e = said_of (read_at image word) e

read-lt : (w : ℕ) (b : Bool) → said_data (pick b (decoded w) (says 0)) < data_values
read-lt w true = answers.data-lt w
read-lt w false = lit< tt

-- data are below 2048, whatever the image
pub data-lt : (image : List ℕ) (word : ℕ) → data_at image word < data_values
unfolding data_at read_at
data-lt image word = read-lt (word_at image word) (checked word)

-- past the card the data are 0
data-past : (image : List ℕ) (k : ℕ) → card_words ≤ k → data_at image k ≡ 0
unfolding data_at read_at
data-past image k h = ap (λ (b : Bool). said_data (pick b (decoded (word_at image k)) (says 0))) (unchecked-past k h)

-- the array that decoding fills has the data at every word number
pub words_are : (image words : List ℕ) → length words ≡ card_words → at (filled (data_at image) card_words words) ≡ data_at image
words_are image words e = fun_ext (λ k. elim (dec_le card_words k) [
  | yes h ↦
      get_or-eq_default (filled (data_at image) card_words words) 0 (let l = length-written (λ (j : ℕ). true) (data_at image) card_words words in omega arith)
      ∙ sym (data-past image k h)
  | no f ↦ written_at (λ (j : ℕ). true) (data_at image) card_words words k 0 (le_of_eq (sym e)) (lt_of_not-le f)
])

pub damaged-within : (image : List ℕ) → first_damaged image ≤ card_words
unfolding first_damaged
damaged-within image = (is-first (damaged_at image) 0 card_words).within
