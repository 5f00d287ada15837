-- After any pieces the state is the one that all their bytes together determine, however they were cut. Assumes nothing.
use Prim.Native.Nat.{ℕ, ◌+◌, ◌*◌, ◌<◌, ◌≤◌}
use mathlib.Core.Path.{◌≡◌, refl, sym, ap, ap₂, ◌∙◌}
use mathlib.Core.Bool.{Bool, true, false}
use mathlib.Core.List.{List, [], ◌∷◌, ◌++◌, foldl-append, flatten, append_assoc, append-nil}
use native.Mathlib.Omega.{arith}
use lib.Dec.{ltb}
use lib.ListN.{length}
use borrow.Author.Tests.{ltb-true, lt-ltb}
use Rattle.lists.specs.Pick.{pick}
use Rattle.lists.proofs.First.{is-first, first-is}
use Rattle.map.specs.Map.{card_words, image_bytes}
use Rattle.card.specs.Card.{damaged_at}
use Rattle.reader.specs.Bytes.{Held, one_more, fed, fed_all, fresh, spoilt_at, first_spoilt, kept_of, state_of}
use Rattle.reader.proofs.Says.{Says, sound, spoilt, stands, step}

module _ (l : List ℕ) where
  not-spoilt : (w : ℕ) (t : Bool) → ltb (w * 2 + 1) (length l) ≡ t → (w * 2 + 1 < length l → damaged_at l w ≡ false) → pick t (damaged_at l w) false ≡ false
  not-spoilt w true e f = f (ltb-true (w * 2 + 1) (length l) e)
  not-spoilt w false e f = refl

  sound-at : (w : ℕ) → (w * 2 + 1 < length l → damaged_at l w ≡ false) → spoilt_at l w ≡ false
  sound-at w f = not-spoilt w (ltb (w * 2 + 1) (length l)) refl f

  pub no-first : ((w : ℕ) → w < card_words → w * 2 + 1 < length l → damaged_at l w ≡ false) → first_spoilt l ≡ card_words
  unfolding first_spoilt
  no-first f =
      sym (first-is (spoilt_at l) 0 card_words card_words (record {
        from = omega arith;
        within = omega arith;
        before = λ w _ h. sound-at w (f w h);
        at = λ h. absurd (let q : ⊥ = omega arith in q);
      }))

  pub the-first : (w : ℕ) → w < card_words → w * 2 + 1 < length l → damaged_at l w ≡ true → ((v : ℕ) → v < w → damaged_at l v ≡ false) → first_spoilt l ≡ w
  unfolding first_spoilt
  the-first w low there d f =
      sym (first-is (spoilt_at l) 0 card_words w (record {
        from = omega arith;
        within = omega arith;
        before = λ v _ h. sound-at v (λ _. f v h);
        at = λ _. rw (lt-ltb (w * 2 + 1) (length l) there) d;
      }))

  pub spoilt-within : first_spoilt l ≤ card_words
  unfolding first_spoilt
  spoilt-within = (is-first (spoilt_at l) 0 card_words).within

  joined : (lent : List ℕ) {h : Held} {n d : ℕ} → h ≡ stands lent l n d → n ≡ kept_of l → d ≡ first_spoilt l → h ≡ state_of lent l
  unfolding state_of
  joined lent e p q = e ∙ ap₂ (stands lent l) p q

  -- the bytes determine one state
  says-one : (lent : List ℕ) (h : Held) → Says lent l h → h ≡ state_of lent l
  unfolding kept_of
  says-one lent h (sound s e) = let f = no-first s in joined lent e (omega arith) (sym f)
  says-one lent h (spoilt w low there d s e) = let f = the-first w low there d s in joined lent e (omega arith) (sym f)

-- the step for more bytes, one after another
says-more : (lent l m : List ℕ) (h : Held) → image_bytes ≤ length lent → Says lent l h → Says lent (l ++ m) (fed h m)
says-more lent l [] h room s = rw (append-nil l) s
says-more lent l (b ∷ m) h room s =
    rw (append_assoc l (b ∷ []) m) at (says-more lent (l ++ b ∷ []) m (one_more h b) room (step lent l b room h s))

says-start : (lent : List ℕ) → Says lent [] (fresh lent)
says-start lent = sound (λ w _ h. absurd (let q : ⊥ = omega arith in q)) refl

-- several pieces in turn have the effect of one piece with all their bytes
together : (pieces : List (List ℕ)) (h : Held) → fed_all h pieces ≡ fed h (flatten pieces)
unfolding flatten
together [] h = refl
together (p ∷ ps) h = together ps (fed h p) ∙ sym (foldl-append one_more h p (flatten ps))

-- the state after these bytes is the one that they determine
pub means : (lent bytes : List ℕ) → image_bytes ≤ length lent → fed (fresh lent) bytes ≡ state_of lent bytes
means lent bytes room = says-one bytes lent _ (says-more lent [] bytes (fresh lent) room (says-start lent))

-- the same when more bytes follow
pub more-mean : (lent l m : List ℕ) → image_bytes ≤ length lent → fed (state_of lent l) m ≡ state_of lent (l ++ m)
more-mean lent l m room =
    ap (λ (h : Held). fed h m) (sym (means lent l room)) ∙ sym (foldl-append one_more (fresh lent) l m) ∙ means lent (l ++ m) room

-- that state is in one of the two cases of `Says`
pub says : (lent bytes : List ℕ) → image_bytes ≤ length lent → Says lent bytes (state_of lent bytes)
says lent bytes room = rw (means lent bytes room) at (says-more lent [] bytes (fresh lent) room (says-start lent))

pub pieces-mean : (lent : List ℕ) (pieces : List (List ℕ)) → image_bytes ≤ length lent → fed_all (fresh lent) pieces ≡ state_of lent (flatten pieces)
pieces-mean lent pieces room = together pieces (fresh lent) ∙ means lent (flatten pieces) room
