-- A byte is stored, or changes nothing: after a damaged word and past the card no byte changes anything. The verdict on the bytes kept says whether a word
-- is damaged. Assumes nothing.
use Prim.Native.Nat.{ℕ}
use mathlib.Core.Path.{◌≡◌, refl}
use mathlib.Core.Bool.{Bool, true, false}
use mathlib.Core.List.{List, [], ◌∷◌}
use lib.Dec.{leb, ltb}
use Rattle.std.specs.Prelude.{is_err}
use Rattle.map.specs.Map.{card_words, image_bytes}
use Rattle.reader.specs.Bytes.{Held, verdict_on, taking, one_more, fed}

pub taken : (h : Held) (byte : ℕ) → ltb h.damaged card_words ≡ false → leb image_bytes h.count ≡ false
    → taking h.image h.count byte ≡ one_more h byte
unfolding one_more
taken h byte e f = rw (e, f) refl

pub after-damage : (x : List ℕ) (h : Held) → ltb h.damaged card_words ≡ true → fed h x ≡ h
unfolding one_more
after-damage [] h e = refl
after-damage (b ∷ x) h e = rw e (after-damage x h e)

pub past-card : (x : List ℕ) (h : Held) → ltb h.damaged card_words ≡ false → leb image_bytes h.count ≡ true → fed h x ≡ h
unfolding one_more
past-card [] h e f = refl
past-card (b ∷ x) h e f = rw (e, f) (past-card x h e f)

-- ---- the verdict on the bytes kept

module _ (h : Held) where
  refused-by : (b : Bool) → ltb h.damaged card_words ≡ b → is_err (verdict_on h) ≡ true → b ≡ true
  unfolding verdict_on
  refused-by true e f = refl
  refused-by false e f = rw e at f

  -- a refusal of the bytes kept is that of a damaged word
  pub has-damage : is_err (verdict_on h) ≡ true → ltb h.damaged card_words ≡ true
  has-damage f = refused-by (ltb h.damaged card_words) refl f

  passed-by : (b : Bool) → ltb h.damaged card_words ≡ b → is_err (verdict_on h) ≡ false → b ≡ false
  unfolding verdict_on
  passed-by true e f = rw e at f
  passed-by false e f = refl

  pub no-damage : is_err (verdict_on h) ≡ false → ltb h.damaged card_words ≡ false
  no-damage f = passed-by (ltb h.damaged card_words) refl f
