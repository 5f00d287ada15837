-- Indices and words of a list correspond one to one; and the lengths of the lists. Assumes nothing.
use Prim.Native.Nat.{ℕ, zero, suc, ◌+◌, ◌-◌, ◌≤◌, ◌<◌}
use mathlib.Core.Path.{◌≡◌, refl, sym, ap, ◌∙◌, subst}
use mathlib.Core.Bool.{Bool, true, false, not, ◌&&◌}
use native.Mathlib.Decide.{dec_le}
use native.Mathlib.Nat.{lt_of_not-le, le_refl, add-zero, add-suc}
use native.Mathlib.Numerals.{add-one}
use native.Mathlib.Omega.{arith}
use lib.Dec.{eqb}
use borrow.Author.Tests.{eq-eqb, ne_eqb}
use Rattle.lists.specs.Pick.{pick}
use Rattle.lists.specs.Count.{count_below}
use Rattle.lists.proofs.First.{first-is}
use Rattle.lists.proofs.Count.{count-not}
use Rattle.map.specs.Map.{card_words, checked_words, checked}
use Rattle.map.proofs.Counted.{checked-count}
use Rattle.listing.specs.Index.{unchecked, unchecked_words, list_index, listed_word}

-- the words before a given word are in one list or the other
pub indices-add : (word : ℕ) → list_index checked word + list_index unchecked word ≡ word
unfolding list_index
indices-add word = count-not checked word

pub checked-all : list_index checked card_words ≡ checked_words
unfolding list_index
checked-all = checked-count

pub unchecked-all : list_index unchecked card_words ≡ unchecked_words
unchecked-all = let a = indices-add card_words in let c = checked-all in omega arith

pub index-zero : (listed : ℕ → Bool) → list_index listed 0 ≡ 0
unfolding list_index count_below
index-zero listed = refl

both_true : (a b : Bool) → a ≡ true → b ≡ true → (a && b) ≡ true
both_true true b e f = f
both_true false b e f = e

module _ (listed : ℕ → Bool) where
  -- the index after a word: one more if the word is listed, else the same
  pub index-next : (word : ℕ) → list_index listed (word + 1) ≡ list_index listed word + pick (listed word) 1 0
  unfolding list_index count_below
  index-next word = ap (count_below listed) (add-one word)

  pub rises : (word n : ℕ) → list_index listed word ≤ list_index listed (word + n)
  unfolding list_index count_below
  rises word zero = rw (add-zero word) (le_refl (count_below listed word))
  rises word (suc n) = let ih = rises word n in rw (add-suc word n) (omega arith)

  -- the index of a listed word is below that of any later word
  pub index-before : (word later : ℕ) → listed word ≡ true → word < later → list_index listed word < list_index listed later
  index-before word later e h =
      let n : later ≡ word + 1 + (later - (word + 1)) = omega arith in
      let r = rises (word + 1) (later - (word + 1)) in
      let i : list_index listed (word + 1) ≡ list_index listed word + 1 = index-next word ∙ ap (λ (b : Bool). list_index listed word + pick b 1 0) e in
      subst (λ (k : ℕ). list_index listed word < list_index listed k) (sym n) (omega arith)

  same_word : (word k : ℕ) → k < word → (b : Bool) → listed k ≡ b → (b && eqb (list_index listed k) (list_index listed word)) ≡ false
  same_word word k h true e = let l = index-before k word e h in ne_eqb (list_index listed k) (list_index listed word) (λ q. omega arith)
  same_word word k h false e = refl

  -- the word at the index of a listed word is that word
  pub word-of-index : (word : ℕ) → word < card_words → listed word ≡ true → listed_word listed (list_index listed word) ≡ word
  unfolding listed_word
  word-of-index word h e =
      sym (first-is _ 0 card_words word (record {
        from = omega arith;
        within = omega arith;
        before = λ k a b. same_word word k b (listed k) refl;
        at = λ l. both_true _ _ e (eq-eqb (list_index listed word) (list_index listed word) refl);
      }))

  -- the word, below n, that is listed and has this index
  record Has (n index : ℕ) : Type 0 where
    word : ℕ
    below : word < n
    is : listed word ≡ true
    at : list_index listed word ≡ index

  last : (n index : ℕ) (b : Bool) → listed n ≡ b → list_index listed n ≤ index → index < list_index listed n + pick b 1 0 → Has (suc n) index
  last n index true e l h = record { word = n; below = le_refl (suc n); is = e; at = omega arith }
  last n index false e l h = absurd (let q : ⊥ = omega arith in q)

  has_word : (n index : ℕ) → index < list_index listed n → Has n index
  unfolding list_index count_below
  has_word zero index h = absurd (let q : ⊥ = omega arith in q)
  has_word (suc n) index h = elim (dec_le (count_below listed n) index) [
    | yes l ↦ last n index (listed n) refl l h
    | no f ↦ let w = has_word n index (lt_of_not-le f) in record { word = w.word; below = let b = w.below in omega arith; is = w.is; at = w.at }
  ]

  -- for an index below the length of the list, the word at that index has that index
  module _ (index : ℕ) (h : index < list_index listed card_words) where
    found : (w : Has card_words index) → listed_word listed index ≡ w.word
    found w = ap (listed_word listed) (sym w.at) ∙ word-of-index w.word w.below w.is

    abbrev has : Has card_words index
    has = has_word card_words index h

    pub listed-lt : listed_word listed index < card_words
    listed-lt = subst (λ (k : ℕ). k < card_words) (sym (found has)) has.below

    pub is-listed : listed (listed_word listed index) ≡ true
    is-listed = ap listed (found has) ∙ has.is

    pub index-of-word : list_index listed (listed_word listed index) ≡ index
    index-of-word = ap (list_index listed) (found has) ∙ has.at

-- ---- bounds for the two lists

pub checked-lt : (word : ℕ) → word < card_words → checked word ≡ true → list_index checked word < checked_words
checked-lt word h e = subst (λ (n : ℕ). list_index checked word < n) checked-all (index-before checked word card_words e h)

pub unchecked-lt : (word : ℕ) → word < card_words → checked word ≡ false → list_index unchecked word < unchecked_words
unchecked-lt word h e = subst (λ (n : ℕ). list_index unchecked word < n) unchecked-all (index-before unchecked word card_words (ap not e) h)

-- ---- as the code counts: `before` is the number of checked words before this one

module _ (word before : ℕ) (h : before ≡ list_index checked word) where
  pub counted-lt : before ≤ word
  counted-lt = let a = indices-add word in omega arith

  pub counted_next : (b : Bool) → checked word ≡ b → before + pick b 1 0 ≡ list_index checked (word + 1)
  counted_next b e =
      ap (λ (n : ℕ). n + pick b 1 0) h ∙ sym (index-next checked word ∙ ap (λ (d : Bool). list_index checked word + pick d 1 0) e)

  -- the index of an unchecked word is word - before
  pub other-index : word - before ≡ list_index unchecked word
  other-index = let a = indices-add word in omega arith

  module _ (l : word < card_words) where
    pub in-first : checked word ≡ true → before < checked_words
    in-first e = let k = checked-lt word l e in omega arith

    pub in-second : checked word ≡ false → word - before < unchecked_words
    in-second e = let k = unchecked-lt word l e in let o = other-index in omega arith
