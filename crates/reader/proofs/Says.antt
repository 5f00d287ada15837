-- The two cases of a state (no word of the bytes is damaged, or one is), and the step from a state to the next by one byte. Assumes nothing.
use Prim.Native.Nat.{ℕ, ◌+◌, ◌*◌, ◌/◌, ◌%◌, ◌<◌, ◌≤◌, min}
use mathlib.Core.Path.{◌≡◌, refl, ◌∙◌}
use mathlib.Core.Bool.{Bool, true, false}
use mathlib.Core.List.{List, [], ◌∷◌, ◌++◌, append_assoc}
use native.Mathlib.Numerals.{add-one}
use native.Mathlib.Omega.{arith}
use lib.Dec.{eqb, leb}
use lib.ListN.{length, set, take, drop, length-append}
use lib.Seq.{take_all, take-append-le, drop-cons, set-append_seam}
use borrow.Author.Tests.{eqb-true, eqb-false, lt-ltb, leb-true, leb-false}
use Rattle.map.specs.Map.{card_words, image_bytes}
use Rattle.card.specs.Card.{damaged_at}
use Rattle.reader.specs.Bytes.{Held, held, completes, one_more}
use Rattle.reader.proofs.Local.{damaged-more}

-- the state with the first n bytes of l kept at the start of the caller's array, and the damaged word d
abbrev pub stands : List ℕ → List ℕ → ℕ → ℕ → Held
stands lent l n d = held (take n l ++ drop n lent) n d

-- the two cases: no word of the bytes l is damaged; or w is the first damaged word, and the bytes up to it are kept
pub data Says (lent l : List ℕ) (h : Held) : Type 0 where
  sound : ((w : ℕ) → w < card_words → w * 2 + 1 < length l → damaged_at l w ≡ false)
      → h ≡ stands lent l (min (length l) image_bytes) card_words → Says lent l h
  spoilt : (w : ℕ) → w < card_words → w * 2 + 1 < length l → damaged_at l w ≡ true → ((v : ℕ) → v < w → damaged_at l v ≡ false)
      → h ≡ stands lent l (w * 2 + 2) w → Says lent l h

-- the step for one more byte
module _ (lent l : List ℕ) (byte : ℕ) (room : image_bytes ≤ length lent) where
  abbrev longer : List ℕ
  longer = l ++ byte ∷ []

  one-longer : length longer ≡ length l + 1
  one-longer = length-append l (byte ∷ [])

  as_before : (w : ℕ) → w * 2 + 1 < length l → damaged_at longer w ≡ damaged_at l w
  as_before w h = damaged-more l (byte ∷ []) w h

  -- a word among the bytes with the new one: a word that was there before, or the one that the byte completes
  module _ (before : (w : ℕ) → w < card_words → w * 2 + 1 < length l → damaged_at l w ≡ false) where
    either : (w : ℕ) (t : Bool) → eqb (w * 2 + 1) (length l) ≡ t → (w * 2 + 1 ≡ length l → damaged_at longer w ≡ false) → w < card_words → w * 2 + 1 < length longer
        → damaged_at longer w ≡ false
    either w true e f b h = f (eqb-true (w * 2 + 1) (length l) e)
    either w false e f b h = let n = eqb-false (w * 2 + 1) (length l) e in let m = one-longer in as_before w (omega arith) ∙ before w b (omega arith)

    -- fewer than 1,664 bytes are kept: the byte is stored after them
    module _ (short : length l < image_bytes) where
      stored : set (take (length l) l ++ drop (length l) lent) (length l) byte ≡ longer ++ drop (length longer) lent
      stored =
          rw (take_all (length l) l (omega arith), one-longer, add-one, append_assoc l (byte ∷ []), drop-cons lent (length l) 0 (omega arith)) (set-append_seam l _ _ byte)

      all-kept : (n d : ℕ) → n ≡ length longer → held (longer ++ drop (length longer) lent) (length l + 1) d ≡ stands lent longer n d
      all-kept n d e = rw (e, take_all (length longer) longer (omega arith), one-longer) refl

      abbrev next : Held
      next = held (longer ++ drop (length longer) lent) (length l + 1) (completes (longer ++ drop (length longer) lent) (length l))

      same : length l % 2 ≡ 1 → damaged_at (longer ++ drop (length longer) lent) (length l / 2) ≡ damaged_at longer (length l / 2)
      same o = damaged-more longer (drop (length longer) lent) (length l / 2) (let m = one-longer in omega arith)

      odd : length l % 2 ≡ 1 → (d : Bool) → damaged_at longer (length l / 2) ≡ d → Says lent longer next
      unfolding completes
      odd o true d =
          let m = one-longer in
          spoilt (length l / 2) (omega arith) (omega arith) d (λ v h. as_before v (omega arith) ∙ before v (omega arith) (omega arith))
          (rw (o, same o ∙ d) (all-kept (length l / 2 * 2 + 2) (length l / 2) (omega arith)))
      odd o false d =
          let m = one-longer in
          sound (λ w b h. either w (eqb (w * 2 + 1) (length l)) refl (λ e. (let q : w ≡ length l / 2 = omega arith in rw q d)) b h)
          (rw (o, same o ∙ d) (all-kept (min (length longer) image_bytes) card_words (omega arith)))

      by-parity : (t : Bool) → eqb (length l % 2) 0 ≡ t → Says lent longer next
      unfolding completes
      by-parity true e =
          let m = one-longer in
          let z = eqb-true (length l % 2) 0 e in
          sound (λ w b h. either w (eqb (w * 2 + 1) (length l)) refl (λ f. absurd (let q : ⊥ = omega arith in q)) b h)
          (rw e (all-kept (min (length longer) image_bytes) card_words (omega arith)))
      by-parity false e = let z = eqb-false (length l % 2) 0 e in odd (omega arith) (damaged_at longer (length l / 2)) refl

    by-room : (t : Bool) → leb image_bytes (length l) ≡ t → Says lent longer (one_more (stands lent l (min (length l) image_bytes) card_words) byte)
    unfolding one_more
    by-room true e =
        let m = one-longer in
        let p = leb-true image_bytes (length l) e in
        let n : min (length l) image_bytes ≡ image_bytes = omega arith in
        let k : min (length longer) image_bytes ≡ image_bytes = omega arith in
        sound (λ w b h. as_before w (omega arith) ∙ before w b (omega arith)) (rw (n, k, take-append-le image_bytes l (byte ∷ []) p) refl)
    by-room false e =
        let p = leb-false image_bytes (length l) e in
        let n : min (length l) image_bytes ≡ length l = omega arith in
        rw (n, e, stored p) (by-parity p (eqb (length l % 2) 0) refl)

  stays : (w : ℕ) → w < card_words → w * 2 + 1 < length l → damaged_at l w ≡ true → ((v : ℕ) → v < w → damaged_at l v ≡ false)
      → Says lent longer (one_more (stands lent l (w * 2 + 2) w) byte)
  unfolding one_more
  stays w low there d before =
      spoilt w low (let n = one-longer in omega arith) (as_before w there ∙ d) (λ v k. as_before v (omega arith) ∙ before v k)
      (rw (lt-ltb w card_words low, take-append-le (w * 2 + 2) l (byte ∷ []) (omega arith)) refl)

  pub step : (h : Held) → Says lent l h → Says lent longer (one_more h byte)
  step h (sound before e) = rw e (by-room before (leb image_bytes (length l)) refl)
  step h (spoilt w low there d before e) = rw e (stays w low there d before)
