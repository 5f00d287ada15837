-- The two lists: the numbers of the words that pass a test, each once, ascending, and no other. Assumes nothing.
use Prim.Native.Nat.{ℕ, ◌+◌, ◌-◌, ◌≤◌, ◌<◌}
use mathlib.Core.Path.{◌≡◌, refl, sym, ap, ◌∙◌, subst}
use mathlib.Core.Bool.{Bool, true}
use mathlib.Core.List.{List}
use native.Mathlib.Nat.{lt_of_not-le}
use native.Mathlib.Omega.{arith}
use lib.ListN.{length, get_or}
use Rattle.lists.proofs.Written.{written_at}
use Rattle.std.specs.Prelude.{⊤, Result, Ok, Err}
use Rattle.refusal.specs.declared.Refusal.{Refusal}
use Rattle.refusal.specs.Refusal.{unless, giving}
use Rattle.map.specs.Map.{card_words, checked_words, checked}
use Rattle.card.specs.Card.{damaged_at}
use Rattle.listing.specs.Index.{list_index, listed_word}
use Rattle.listing.proofs.Index.{rises, index-before, word-of-index, listed-lt, is-listed, index-of-word, checked-all}
use Rattle.scrub.specs.declared.Counts.{Counts}
use Rattle.scrub.specs.Scrub.{mended_at, Lent, left_of, counts_of, how_many, numbered, scrub_verdict, Scrubs}
use Rattle.scrub.specs.Laws.{Lists}
use Rattle.scrub.proofs.Mended.{mended-checked, damaged-checked}
use Rattle.scrub.proofs.Noted.{fewer}
use Rattle.scrub.proofs.Opened.{Long, opened}

module _ (test : ℕ → Bool) (list : List ℕ) (l : how_many test ≤ length list) where
  pub entry : (i : ℕ) → i < how_many test → get_or (numbered test list) i 0 ≡ listed_word test i
  unfolding numbered
  entry i h = written_at (λ (k : ℕ). true) (listed_word test) (how_many test) list i 0 l h

  -- a later index has a later word
  later : (i j : ℕ) → i < j → j < list_index test card_words → listed_word test i < listed_word test j
  later i j h k =
      let a = index-of-word test i (omega arith) in
      let b = index-of-word test j k in
      lt_of_not-le (λ (q : listed_word test j ≤ listed_word test i).
      let n : listed_word test j + (listed_word test i - listed_word test j) ≡ listed_word test i = omega arith in
      let r = subst (λ (w : ℕ). list_index test (listed_word test j) ≤ list_index test w) n (rises test (listed_word test j) (listed_word test i - listed_word test j)) in
      omega arith)

  pub lists : Lists test (how_many test) (numbered test list)
  unfolding how_many
  lists = record {
    on_card = λ i h. subst (λ (w : ℕ). w < card_words) (sym (entry i h)) (listed-lt test i h);
    passes = λ i h. ap test (entry i h) ∙ is-listed test i h;
    ascends = λ i j h k. let a = entry i (omega arith) in let b = entry j k in let c = later i j h k in omega arith;
    all = λ word h e.
        let i = index-before test word card_words e h in
        (list_index test word, i, entry (list_index test word) i ∙ word-of-index test word h e);
  }

-- if only checked words pass the test, at most 814 do
pub few : (test : ℕ → Bool) → ((word : ℕ) → test word ≡ true → checked word ≡ true) → how_many test ≤ checked_words
unfolding how_many
few test only = let a = fewer test only card_words in let b = checked-all in omega arith

-- if the verdict is `Ok`, the new value is the result
pub new-if : {A : Type 0} {r : Result ⊤ Refusal} (new old : A) {x : A} → r ≡ Ok tt → x ≡ unless r new old → x ≡ new
new-if new old e p = p ∙ ap (λ (v : Result ⊤ Refusal). unless v new old) e

-- a scrub that returns counts is not refused, and they are those of the image
went : (v : Result ⊤ Refusal) (c n : Counts) → giving v c ≡ Ok n → (v ≡ Ok tt) × (n ≡ c)
went (Ok tt) c n e = (refl, cc e)
went (Err refusal) c n e = absurd (let z : ◌≡◌ {A = ℕ} 0 1 = cc in omega arith)

-- facts about a scrub that is not refused
module _ {before after : Lent} {r : Result Counts Refusal} {n : Counts} (s : Scrubs before after r) (e : r ≡ Ok n) where
  passes : (scrub_verdict before ≡ Ok tt) × (n ≡ counts_of before.image)
  passes = went _ _ _ (sym s.result ∙ e)

  pub long : Long before
  long = opened before passes.0

  pub left_is : after ≡ left_of before
  left_is = new-if _ _ passes.0 s.left

  pub counts-are : n ≡ counts_of before.image
  counts-are = passes.1

  pub changed-listed : Lists (mended_at before.image) n.changed after.changed
  unfolding left_of counts_of
  changed-listed =
      let f = few (mended_at before.image) (mended-checked before.image) in
      let h = long.changed in
      rw (left_is, counts-are) (lists (mended_at before.image) before.changed (omega arith))

  pub damaged-listed : Lists (damaged_at before.image) n.damaged after.damaged
  unfolding left_of counts_of
  damaged-listed =
      let f = few (damaged_at before.image) (damaged-checked before.image) in
      let h = long.damaged in
      rw (left_is, counts-are) (lists (damaged_at before.image) before.damaged (omega arith))
