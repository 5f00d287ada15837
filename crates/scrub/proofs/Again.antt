-- A second scrub changes nothing. Assumes nothing.
use Prim.Native.Nat.{ℕ, zero, suc, min, ◌/◌, ◌≤◌, ◌<◌}
use mathlib.Core.Path.{◌≡◌, refl, sym, ap, ◌∙◌}
use mathlib.Core.Bool.{Bool, false, true}
use mathlib.Core.List.{List}
use native.Mathlib.Omega.{arith}
use lib.ListN.{length, take, length-take}
use lib.Seq.{get_or-take, ext_get_or}
use Rattle.lists.specs.Count.{count_below}
use Rattle.lists.specs.Written.{written}
use Rattle.lists.proofs.Written.{length-written}
use Rattle.std.specs.Prelude.{⊤, Result, Ok}
use Rattle.refusal.specs.declared.Refusal.{Refusal}
use Rattle.map.specs.Map.{card_words, image_bytes, checked_words}
use Rattle.card.specs.Card.{damaged_at}
use Rattle.listing.specs.Index.{list_index, listed_word}
use Rattle.scrub.specs.declared.Counts.{Counts}
use Rattle.refusal.specs.Refusal.{giving}
use Rattle.scrub.specs.Scrub.{mended_at, scrubbed, how_many, numbered, Lent, left_of, counts_of, Scrubs}
use Rattle.scrub.specs.Laws.{Settled}
use Rattle.scrub.proofs.Mended.{damaged-checked}
use Rattle.scrub.proofs.Opened.{closed}
use Rattle.scrub.proofs.Listed.{entry, few, long, left_is, counts-are}
use Rattle.scrub.proofs.After.{length-after, none-mended, damaged-after}

-- ---- a test that nothing passes

untouched : {A : Type 0} (touch : ℕ → Bool) (val : ℕ → A) (n : ℕ) (d : List A) → ((k : ℕ) → touch k ≡ false) → written touch val n d ≡ d
unfolding written
untouched touch val zero d f = refl
untouched touch val (suc n) d f = rw (f n) (untouched touch val n d f)

module _ (test : ℕ → Bool) (f : (word : ℕ) → test word ≡ false) where
  none-counted : (n : ℕ) → count_below test n ≡ 0
  unfolding count_below
  none-counted zero = refl
  none-counted (suc n) = let e = none-counted n in rw (f n) (omega arith)

  how-none : how_many test ≡ 0
  unfolding how_many list_index
  how-none = none-counted card_words

  lists-none : (list : List ℕ) → numbered test list ≡ list
  unfolding numbered written
  lists-none list = rw how-none refl

-- ---- the second scrub

nothing-mended : (image : List ℕ) → ((word : ℕ) → mended_at image word ≡ false) → scrubbed image ≡ image
unfolding scrubbed
nothing-mended image f = untouched _ _ image_bytes image (λ k. f (k / 2))

module _ (image : List ℕ) (l : image_bytes ≤ length image) where
  pub settled : scrubbed (scrubbed image) ≡ scrubbed image
  settled = nothing-mended (scrubbed image) (none-mended image l)

  pub none-changed : how_many (mended_at (scrubbed image)) ≡ 0
  none-changed = how-none (mended_at (scrubbed image)) (none-mended image l)

  pub list-stays : (list : List ℕ) → numbered (mended_at (scrubbed image)) list ≡ list
  list-stays = lists-none (mended_at (scrubbed image)) (none-mended image l)

-- the first entries of a list depend on the test alone
long_as : (test : ℕ → Bool) (list : List ℕ) → how_many test ≤ length list → length (take (how_many test) (numbered test list)) ≡ how_many test
unfolding numbered
long_as test list h =
    length-take (how_many test) (numbered test list)
    ∙ (let e = length-written (λ (k : ℕ). true) (listed_word test) (how_many test) list in
    let q : min (how_many test) (length (numbered test list)) ≡ how_many test = omega arith in q)

firsts_same : (test : ℕ → Bool) (list other : List ℕ) → how_many test ≤ length list → how_many test ≤ length other
    → take (how_many test) (numbered test list) ≡ take (how_many test) (numbered test other)
firsts_same test list other h k =
    ext_get_or 0 _ _ (long_as test list h ∙ sym (long_as test other k))
    (λ i b. let q : i < how_many test = let e = long_as test list h in omega arith in
    get_or-take (how_many test) (numbered test list) i 0 q ∙ entry test list h i q ∙ sym (get_or-take (how_many test) (numbered test other) i 0 q ∙ entry test other k i q))

module _ {before left second after : Lent} {r q : Result Counts Refusal} {n : Counts} (s : Scrubs before left r) (e : r ≡ Ok n) (t : Scrubs second after q)
    (i : second.image ≡ left.image) (c : checked_words ≤ length second.changed) (d : checked_words ≤ length second.damaged) where
  abbrev image : List ℕ
  image = before.image

  enough : image_bytes ≤ length image
  enough = (long s e).image

  image-is : second.image ≡ scrubbed image
  unfolding left_of
  image-is = i ∙ ap (λ (x : Lent). x.image) (left_is s e)

  passes : q ≡ Ok (counts_of second.image)
  passes =
      t.result ∙ ap (λ (v : Result ⊤ Refusal). giving v (counts_of second.image)) (closed second (record { image = let f = ap length image-is in let g = length-after image in let h = enough in omega arith; changed = c; damaged = d }))

  pub again : Settled n left q second after
  unfolding left_of counts_of
  again =
      let most = few (damaged_at image) (damaged-checked image) in
      let h = (long s e).damaged in
      record {
        again = counts_of second.image;
        verdict = passes;
        image = rw (left_is t passes, image-is, left_is s e) (settled image enough);
        none = rw (image-is) (none-changed image enough);
        changed = rw (left_is t passes, image-is) (list-stays image enough second.changed);
        count = rw (counts-are s e, image-is, damaged-after image enough) refl;
        damaged =
            rw (counts-are s e, left_is t passes, left_is s e, image-is, damaged-after image enough)
            (firsts_same (damaged_at image) second.damaged before.damaged (omega arith) (omega arith));
      }
