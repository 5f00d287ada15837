-- The step of a loop over words that stores each word in its list. Assumes nothing.
use Prim.Native.Nat.{ℕ, ◌+◌, ◌<◌}
use mathlib.Core.Path.{◌≡◌, refl, sym, ap, ap₂, ◌∙◌, subst}
use mathlib.Core.Bool.{Bool, true, false}
use mathlib.Core.List.{List}
use native.Mathlib.Omega.{arith}
use lib.ListN.{set}
use Rattle.lists.specs.Pick.{pick}
use Rattle.lists.proofs.Fill.{Filling, one_more}
use Rattle.map.specs.Map.{card_words}
use Rattle.listing.specs.Index.{list_index, listed_word}
use Rattle.listing.specs.Inner.{kept}
use Rattle.listing.proofs.Index.{index-next, index-before, word-of-index}

-- a word that belongs to the list is stored, any other is not
module _ (listed : ℕ → Bool) (word value : ℕ) (list : List ℕ) where
  by_result : (b : Bool) → listed word ≡ b → pick b (set list (list_index listed word) value) list ≡ kept listed word value list
  by_result b e = ap (λ (t : Bool). pick t (set list (list_index listed word) value) list) (sym e)

  pub stored : (index v : ℕ) → listed word ≡ true → index ≡ list_index listed word → v ≡ value → set list index v ≡ kept listed word value list
  stored index v e p q = ap₂ (set list) p q ∙ by_result true e

  pub left : listed word ≡ false → list ≡ kept listed word value list
  left e = by_result false e

-- the entry at an index, given a value for each word
abbrev pub entry : (ℕ → Bool) → (ℕ → ℕ) → ℕ → ℕ
entry listed value index = value (listed_word listed index)

module _ (listed : ℕ → Bool) (value : ℕ → ℕ) (n : ℕ) (all : list_index listed card_words ≡ n) (word : ℕ) (h : word < card_words) where
  by-test : {d₀ d : List ℕ} (b : Bool) → listed word ≡ b → Filling (entry listed value) n d₀ d (list_index listed word)
      → Filling (entry listed value) n d₀ (pick b (set d (list_index listed word) (value word)) d) (list_index listed word + pick b 1 0)
  by-test true e r =
      one_more (entry listed value) r (subst (λ (k : ℕ). list_index listed word < k) all (index-before listed word card_words e h))
      (ap value (sym (word-of-index listed word h e)))
  by-test {d₀ = d₀} {d = d} false e r =
      subst (Filling (entry listed value) n d₀ d) (let z : list_index listed word ≡ list_index listed word + 0 = omega arith in z) r

  pub kept_more : {d₀ d : List ℕ} → Filling (entry listed value) n d₀ d (list_index listed word)
      → Filling (entry listed value) n d₀ (kept listed word (value word) d) (list_index listed (word + 1))
  kept_more {d₀ = d₀} {d = d} r =
      subst (Filling (entry listed value) n d₀ (kept listed word (value word) d)) (sym (index-next listed word)) (by-test (listed word) refl r)
