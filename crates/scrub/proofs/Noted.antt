-- The invariant of a loop over words that lists those that pass a test. Assumes nothing.
use Prim.Native.Nat.{ℕ, zero, suc, ◌+◌, ◌-◌, ◌≤◌, ◌<◌}
use mathlib.Core.Path.{◌≡◌, refl, sym, ap, ap₂, ◌∙◌, subst}
use mathlib.Core.Bool.{Bool, true, false}
use mathlib.Core.List.{List}
use native.Mathlib.Nat.{le_of_eq}
use native.Mathlib.Omega.{arith}
use lib.ListN.{set}
use Rattle.lists.specs.Pick.{pick}
use Rattle.lists.specs.Count.{count_below}
use Rattle.lists.proofs.Fill as fill
use Rattle.lists.proofs.Fill.{Filling}
use Rattle.map.specs.Map.{card_words, checked_words, spans, role_of, checked}
use Rattle.listing.specs.Index.{list_index, listed_word}
use Rattle.listing.proofs.Index.{index-zero, index-next, index-before, rises, checked-all}
use Rattle.listing.proofs.Kept.{kept_more}
use Rattle.scrub.specs.Scrub.{how_many, numbered}

-- ---- a list of 814 entries has room if only checked words pass the test

one : (a b : Bool) → (a ≡ true → b ≡ true) → pick a 1 0 ≤ pick b 1 0
one true b f = le_of_eq (sym (ap (λ (t : Bool). pick t 1 0) (f refl)))
one false b f = omega arith

last-checked : checked 831 ≡ true
unfolding checked role_of spans
last-checked = refl

module _ (test : ℕ → Bool) (only : (word : ℕ) → test word ≡ true → checked word ≡ true) where
  pub fewer : (n : ℕ) → list_index test n ≤ list_index checked n
  unfolding list_index count_below
  fewer zero = omega arith
  fewer (suc n) = let a = fewer n in let b = one (test n) (checked n) (only n) in omega arith

  pub room : (word : ℕ) → word < card_words → list_index test word < checked_words
  room word h =
      let a = fewer word in
      let n : word + (831 - word) ≡ 831 = omega arith in
      let b = subst (λ (k : ℕ). list_index checked word ≤ list_index checked k) n (rises checked word (831 - word)) in
      let c = index-before checked 831 card_words last-checked (omega arith) in
      let d = checked-all in
      omega arith

-- ---- the list up to this word

pub record Noted (test : ℕ → Bool) (list₀ list : List ℕ) (count word : ℕ) : Type 0 where
  pub counted : count ≡ list_index test word
  pub stored : Filling (listed_word test) (list_index test card_words) list₀ list (list_index test word)

module _ (test : ℕ → Bool) where
  pub start : (list : List ℕ) → Noted test list list 0 0
  start list = record {
    counted = sym (index-zero test);
    stored = subst (Filling (listed_word test) (list_index test card_words) list list) (sym (index-zero test)) (fill.start _ _ _);
  }

  module _ {list₀ list after : List ℕ} {count word r : ℕ} {listed : Bool} (n : Noted test list₀ list count word) (h : word < card_words) (l : listed ≡ test word) where
    pub one_more : r ≡ count + pick listed 1 0 → after ≡ pick listed (set list count word) list → Noted test list₀ after r (word + 1)
    one_more e f = record {
      counted = e ∙ ap₂ (λ (k : ℕ) (b : Bool). k + pick b 1 0) n.counted l ∙ sym (index-next test word);
      stored =
          subst (λ (d : List ℕ). Filling (listed_word test) (list_index test card_words) list₀ d (list_index test (word + 1)))
          (sym (f ∙ ap₂ (λ (k : ℕ) (b : Bool). pick b (set list k word) list) n.counted l))
          (kept_more test (λ w. w) (list_index test card_words) refl word h n.stored);
    }

  module _ {list₀ list : List ℕ} {count word : ℕ} (n : Noted test list₀ list count word) (h : word < card_words) where
    -- a word that passes is listed, any other is not
    pub listed : {after : List ℕ} {r : ℕ} → test word ≡ true → r ≡ count + 1 → after ≡ set list count word → Noted test list₀ after r (word + 1)
    listed t e f = one_more {listed = true} n h (sym t) e f

    pub left-out : test word ≡ false → Noted test list₀ list count (word + 1)
    left-out t = one_more {listed = false} n h (sym t) (omega arith) refl

  pub done : {list₀ list : List ℕ} {count word : ℕ} → Noted test list₀ list count word → word ≡ card_words → (count ≡ how_many test) × (list ≡ numbered test list₀)
  unfolding how_many numbered
  done n e = (n.counted ∙ ap (list_index test) e, fill.done _ n.stored (le_of_eq (sym (ap (list_index test) e))))
