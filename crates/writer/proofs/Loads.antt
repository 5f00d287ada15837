-- A card that was read and written again loads as before: the same result, and the same tables. Assumes nothing.
use Prim.Native.Nat.{ℕ, ◌≤◌}
use mathlib.Core.Path.{◌≡◌, refl, sym, ap, ◌∙◌}
use mathlib.Core.List.{List, ◌∷◌}
use borrow.Author.Tests.{le-ltb}
use native.Mathlib.Nat.{le_of_eq}
use lib.Dec.{ltb}
use lib.ListN.{length}
use Rattle.refusal.specs.declared.Refusal.TheVariants.{ShortTable}
use Rattle.std.specs.Prelude.{⊤, Result, Ok, Err}
use Rattle.refusal.specs.declared.Refusal.{Refusal}
use Rattle.refusal.specs.Refusal.{unless}
use Rattle.refusal.specs.Order.{◌refuses◌, first_of}
use Rattle.map.specs.Map.{card_words, image_bytes, frame_pixels}
use Rattle.card.specs.Card.{data_at, first_damaged}
use Rattle.calibration.specs.Calibration.{calibration_of}
use Rattle.eeprom.specs.declared.Loaded.{Loaded}
use Rattle.eeprom.specs.Load.{Tables, shortest, filled_tables, data_tests, load_tests, load_verdict, giving, loaded, Loads}
use Rattle.listing.specs.Index.{Lists}
use Rattle.listing.specs.Read.{Reads}
use Rattle.writer.specs.Write.{Writes}
use Rattle.writer.specs.Round.{firsts, record_in}
use Rattle.writer.proofs.Round.{none-damaged, back-data, held_after, length-after, taken}

-- for a card of full length without damaged words, the tests that remain
rest_of : (image : List ℕ) (range table : ℕ) → image_bytes ≤ length image → card_words ≤ first_damaged image
    → first_of (load_tests image range table) ≡ first_of (ltb table frame_pixels refuses ShortTable ∷ data_tests (data_at image) range)
unfolding load_tests first_of
rest_of image range table h n = simp (le-ltb _ _ h, le-ltb _ _ n)

-- so two such cards with the same data have the same verdict
same-verdict : (image other : List ℕ) → data_at other ≡ data_at image → image_bytes ≤ length image → image_bytes ≤ length other → card_words ≤ first_damaged image
    → card_words ≤ first_damaged other → (range : ℕ) (t : Tables) → load_verdict other range t ≡ load_verdict image range t
same-verdict image other e h k n m range t =
    rest_of other range (shortest t) k m
    ∙ ap (λ (w : ℕ → ℕ). first_of (ltb (shortest t) frame_pixels refuses ShortTable ∷ data_tests w range)) e
    ∙ sym (rest_of image range (shortest t) h n)

-- the record of a load that is not refused, or the refusal
recorded : (image : List ℕ) (range : ℕ) (v : Result ⊤ Refusal) → record_in (giving v (loaded image range)) ≡ giving v (calibration_of (data_at image) range)
recorded image range (Ok tt) = refl
recorded image range (Err refusal) = refl

-- two cards with the same data and the same verdicts load alike
module _ (image other : List ℕ) (e : data_at other ≡ data_at image) (alike : (range : ℕ) (t : Tables) → load_verdict other range t ≡ load_verdict image range t) where
  pub same_load : {range : ℕ} {t x y : Tables} {q s : Result Loaded Refusal} → Loads image range t x q → Loads other range t y s → (record_in s ≡ record_in q) × (y ≡ x)
  same_load {range} {t} {x} {y} {q} {s} p o =
      let v = load_verdict image range t in (
        ap record_in o.result
            ∙ recorded other range (load_verdict other range t)
            ∙ ap (λ (z : Result ⊤ Refusal). giving z (calibration_of (data_at other) range)) (alike range t)
            ∙ ap (λ (w : ℕ → ℕ). giving v (calibration_of w range)) e
            ∙ sym (ap record_in p.result ∙ recorded image range v),
        o.lent
            ∙ ap (λ (z : Result ⊤ Refusal). unless z (filled_tables (data_at other) t) t) (alike range t)
            ∙ ap (λ (w : ℕ → ℕ). unless v (filled_tables w t) t) e
            ∙ sym p.lent,
      )

pub back-loads : {image before after : List ℕ} {b a : Lists} {r : Result ⊤ Refusal} → Reads image b a (Ok tt) → image_bytes ≤ length before → Writes (firsts a) before after r
    → {range : ℕ} {t x y : Tables} {q s : Result Loaded Refusal} → Loads image range t x q → Loads after range t y s → (record_in s ≡ record_in q) × (y ≡ x)
back-loads {image} {before} {after} {b} {a} d l w p o =
    let t = taken d l w in
    same_load image after (back-data d l w)
    (same-verdict image after (back-data d l w) t.image-long (length-after d l w) t.none
    (le_of_eq (none-damaged after (firsts a) (held_after d l w)))) p o
