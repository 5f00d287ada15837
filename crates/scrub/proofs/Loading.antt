-- A card loads after a scrub as it did before, and counts no word as mended. Assumes nothing.
use Prim.Native.Nat.{ℕ, zero, suc, ◌≤◌, ◌<◌}
use mathlib.Core.Path.{◌≡◌, refl, ap, ap₂, ◌∙◌}
use mathlib.Core.Bool.{Bool, false}
use mathlib.Core.List.{List}
use native.Mathlib.Nat.{le_refl}
use native.Mathlib.Omega.{arith}
use borrow.Author.Tests.{ltb-false}
use lib.ListN.{length}
use Rattle.lists.specs.Count.{count_below}
use Rattle.lists.specs.Last.{last_below}
use Rattle.std.specs.Prelude.{⊤, Result, Ok, Err}
use Rattle.refusal.specs.declared.Refusal.{Refusal}
use Rattle.refusal.proofs.Order.{passed}
use Rattle.map.specs.Map.{card_words, image_bytes}
use Rattle.card.specs.Card.{first_damaged, stray_at, mending_below, mending_of, no_mending}
use Rattle.eeprom.specs.declared.Loaded.{Loaded}
use Rattle.eeprom.specs.Load.{Tables, load_tests, load_verdict, giving, loaded, Loads}
use Rattle.writer.proofs.Round.{undamaged}
use Rattle.writer.proofs.Loads.{same_load}
use Rattle.scrub.specs.declared.Counts.{Counts}
use Rattle.scrub.specs.Scrub.{scrubbed, Lent, left_of, Scrubs}
use Rattle.scrub.specs.Laws.{Alike, mending_in}
use Rattle.scrub.proofs.Listed.{long, left_is}
use Rattle.scrub.proofs.After.{length-after, data-after, first-after, first_word, none-stray}

-- a card that passes has no damaged word
none-damaged : (image : List ℕ) (range : ℕ) (t : Tables) → load_verdict image range t ≡ Ok tt → card_words ≤ first_damaged image
unfolding load_tests
none-damaged image range t e =
    let p = passed _ _ _ e in
    let q = passed _ _ _ p.1 in
    let r = passed _ _ _ q.1 in
    ltb-false _ _ r.0

-- if no number below n passes the test, the count is 0 and there is no last one
module _ (test : ℕ → Bool) (none : ℕ) where
  not-counted : (n : ℕ) → ((k : ℕ) → k < n → test k ≡ false) → (count_below test n ≡ 0) × (last_below test none n ≡ none)
  unfolding count_below last_below
  not-counted zero f = (refl, refl)
  not-counted (suc n) f =
      let e = f n (le_refl (suc n)) in
      let r = not-counted n (λ k h. f k (omega arith)) in
      (rw e (let c = r.0 in omega arith), rw e r.1)

module _ (image : List ℕ) (l : image_bytes ≤ length image) where
  -- a scrub does not change the verdict of a load
  alike : (range : ℕ) (t : Tables) → load_verdict (scrubbed image) range t ≡ load_verdict image range t
  unfolding load_tests
  alike range t = rw (length-after image, first-after image l, first_word image l, data-after image l) refl

  none-mending : card_words ≤ first_damaged (scrubbed image) → mending_of (scrubbed image) ≡ no_mending
  unfolding mending_below
  none-mending n =
      let c = not-counted (stray_at (scrubbed image)) card_words card_words (λ k h. none-stray image l k (undamaged (scrubbed image) k h n)) in
      ap₂ (λ (x y : ℕ). record { count = x; last = y }) c.0 c.1

mended_none : (v : Result ⊤ Refusal) (l : Loaded) → (v ≡ Ok tt → l.mending ≡ no_mending) → mending_in (giving v l) ≡ no_mending
mended_none (Ok tt) l f = f refl
mended_none (Err refusal) l f = refl

pub loads : {before after : Lent} {r : Result Counts Refusal} {n : Counts} → Scrubs before after r → r ≡ Ok n
    → {range : ℕ} {t x y : Tables} {p q : Result Loaded Refusal} → Loads before.image range t x p → Loads after.image range t y q → Alike p q x y
unfolding left_of
loads {before} {after} s e {range} {t} a b =
    let image = before.image in
    let l = (long s e).image in
    let c = rw (left_is s e) at b in
    let o = same_load image (scrubbed image) (data-after image l) (alike image l) a c in
    let none = λ (v : load_verdict (scrubbed image) range t ≡ Ok tt). none-mending image l (none-damaged (scrubbed image) range t v) in
    record {
      calibration = o.0;
      tables = o.1;
      none = ap mending_in c.result ∙ mended_none (load_verdict (scrubbed image) range t) (loaded (scrubbed image) range) none;
    }
