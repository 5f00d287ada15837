-- What the check of a word determines about it as a word of the card: its data, damage, and whether it is a codeword; and the count of checked words
-- that are not codewords. Assumes nothing.
use Prim.Native.Nat.{ℕ, ◌+◌, ◌≤◌}
use mathlib.Core.Path.{◌≡◌, refl, sym, ap, ◌∙◌}
use mathlib.Core.Bool.{Bool, true, false, not, ◌&&◌}
use mathlib.Core.List.{List}
use native.Mathlib.Nat.{add-zero}
use native.Mathlib.Numerals.{add-one}
use native.Mathlib.Omega.{arith}
use Rattle.std.specs.Prelude.{Option, None, Some, Ok, Err}
use Rattle.lists.specs.Pick.{pick}
use Rattle.lists.specs.Count.{count_below}
use Rattle.lists.specs.Last.{last_below}
use Rattle.lists.proofs.Count.{count-not}
use Rattle.util.specs.Words.{word_at}
use Rattle.refusal.specs.declared.Refusal.{Refusal}
use Rattle.hamming.specs.Word.{Said, says, damaged, is_said, said_data, codeword, decoded}
use Rattle.hamming.specs.Answer.{check_answer, said_of}
use Rattle.hamming.specs.declared.Checked.TheVariants.{Clean, Mended}
use Rattle.hamming.proofs.Answers.{check-says}
use Rattle.hamming.proofs.Exactly.{clean-only, mended-only, refused-only}
use Rattle.map.specs.Map.{card_words, checked}
use Rattle.card.specs.Card.{read_at, data_at, damaged_at, stray_at, mending_below, no_mending}
use Rattle.card.specs.Inner.{read_of, counted}
use Rattle.card.specs.declared.Read.{Read}

module _ (image : List ℕ) (word : ℕ) where
  -- what is read, from the decoding of the word and from whether it is a codeword
  abbrev read_as : Said → Bool → Option Read
  read_as s b = pick (not (is_said s)) None (Some (record { value = said_data s; stray = b }))

  parts : (s : Said) (b : Bool) → read_at image word ≡ s → stray_at image word ≡ b → read_as s b ≡ read_of image word
  unfolding data_at damaged_at
  parts s b e f = sym (ap (λ (x : Said). read_as x (stray_at image word)) e ∙ ap (read_as s) f)

  pub unchecked : checked word ≡ false → Some (record { value = 0; stray = false }) ≡ read_of image word
  unfolding read_at stray_at
  unchecked e =
      parts (says 0) false (ap (λ (b : Bool). pick b (decoded (word_at image word)) (says 0)) e)
      (ap (λ (b : Bool). b && not (codeword (word_at image word))) e)

  module _ (e : checked word ≡ true) where
    said : (s : Said) → decoded (word_at image word) ≡ s → read_at image word ≡ s
    unfolding read_at
    said s f = ap (λ (b : Bool). pick b (decoded (word_at image word)) (says 0)) e ∙ f

    stray : (b : Bool) → codeword (word_at image word) ≡ b → stray_at image word ≡ not b
    unfolding stray_at
    stray b f = ap (λ (x : Bool). x && not (codeword (word_at image word))) e ∙ ap not f

    pub clean : (d : ℕ) → check_answer (word_at image word) ≡ Ok (Clean d) → Some (record { value = d; stray = false }) ≡ read_of image word
    clean d f =
        let w = word_at image word in
        parts (says d) false (said (says d) (sym (check-says w) ∙ ap said_of f)) (stray true (clean-only w d f))

    pub mended : (d k : ℕ) → check_answer (word_at image word) ≡ Ok (Mended d k) → Some (record { value = d; stray = true }) ≡ read_of image word
    mended d k f =
        let w = word_at image word in
        parts (says d) true (said (says d) (sym (check-says w) ∙ ap said_of f)) (stray false (mended-only w d k f).stray)

    pub refused : (r : Refusal) → check_answer (word_at image word) ≡ Err r → None ≡ read_of image word
    refused r f =
        let w = word_at image word in
        parts damaged true (said damaged (sym (check-says w) ∙ ap said_of f)) (stray false (refused-only w r f))

-- ---- counting the words that are not codewords

pub none-counted : (image : List ℕ) → mending_below image 0 ≡ no_mending
unfolding mending_below count_below last_below
none-counted image = refl

pub one-counted : (image : List ℕ) (n : ℕ) → counted (mending_below image n) n (stray_at image n) ≡ mending_below image (n + 1)
unfolding mending_below count_below last_below
one-counted image n = rw (add-one n) (go (stray_at image n))
  where
    go : (b : Bool) → counted (mending_below image n) n b ≡ record { count = count_below (stray_at image) n + pick b 1 0; last = pick b n (last_below (stray_at image) card_words n) }
    go true = refl
    go false = ap (λ (k : ℕ). record { count = k; last = last_below (stray_at image) card_words n }) (sym (add-zero (count_below (stray_at image) n)))

pub count-within : (image : List ℕ) (n : ℕ) → (mending_below image n).count ≤ n
unfolding mending_below
count-within image n = let e = count-not (stray_at image) n in omega arith
