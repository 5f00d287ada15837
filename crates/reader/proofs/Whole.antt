-- Reading a whole card, however cut, ends with the verdict, record and tables of a load of it. Assumes nothing.
use Prim.Native.Nat.{ℕ, ◌+◌, ◌*◌, ◌<◌, ◌≤◌}
use mathlib.Core.Path.{◌≡◌, refl, sym, ap, ◌∙◌}
use mathlib.Core.Bool.{Bool, true, false, true≢false}
use mathlib.Core.List.{List, [], ◌∷◌, ◌++◌, map, append-nil, append_assoc}
use native.Mathlib.Omega.{arith}
use lib.Dec.{ltb}
use lib.ListN.{length, take, drop, length-append, take-append-drop}
use lib.Seq.{length-take-le}
use borrow.Author.Tests.{lt-ltb, le-ltb, ltb-true}
use Rattle.std.specs.Prelude.{Result, Err, is_none, IsSomeAnd}
use Rattle.lists.specs.Pick.{pick}
use Rattle.lists.proofs.First.{first-same}
use Rattle.refusal.specs.declared.Refusal.{Refusal}
use Rattle.refusal.specs.declared.Refusal.TheVariants.{DamagedWord}
use Rattle.refusal.specs.Order.{first_of}
use Rattle.util.specs.Words.{word_at}
use Rattle.map.specs.Map.{card_words, image_bytes, frame_pixels}
use Rattle.card.specs.Card.{damaged_at, first_damaged}
use Rattle.eeprom.specs.declared.Loaded.{Loaded}
use Rattle.eeprom.specs.Load.{Tables, shortest, load_tests, load_verdict, Loads}
use Rattle.reader.specs.Bytes.{Held, spoilt_at, first_spoilt, state_of}
use Rattle.reader.specs.Calls.{loaded_of, lent_after, Answer, ends, Judged, judged, After, Call, Event, took, State, calling, after_calls, begun, brings, taken_of, judged_of, heard, said_by}
use Rattle.reader.specs.Laws.{bytes_of}
use Rattle.reader.proofs.Loading.{loads}
use Rattle.reader.proofs.Local.{word_more, damaged-more}
use Rattle.reader.proofs.Says.{Says, sound, spoilt}
use Rattle.reader.proofs.Means.{no-first, the-first, says}
use Rattle.reader.proofs.Calls.{Wanting, state_for, ended-call, taken-call, wants, wanting, none-want, calls-mean}

-- ---- the answer for 1,664 bytes or more is that of a load of the first 1,664

module _ (l : List ℕ) (long : image_bytes ≤ length l) where
  abbrev first : List ℕ
  first = take image_bytes l

  first-length : length first ≡ image_bytes
  first-length = length-take-le image_bytes l long

  first-damaged : (w : ℕ) → w < card_words → damaged_at first w ≡ damaged_at l w
  first-damaged w h =
      let e = first-length in
      sym (damaged-more first (drop image_bytes l) w (omega arith)) ∙ ap (λ (b : List ℕ). damaged_at b w) (take-append-drop image_bytes l)

  first_word : (w : ℕ) → w < card_words → word_at first w ≡ word_at l w
  first_word w h =
      let e = first-length in
      sym (word_more first (drop image_bytes l) w (omega arith)) ∙ ap (λ (b : List ℕ). word_at b w) (take-append-drop image_bytes l)

  same_first : first_damaged first ≡ first_spoilt l
  unfolding first_damaged first_spoilt
  same_first =
      first-same (damaged_at first) (spoilt_at l) 0 card_words (λ w h. first-damaged w (omega arith) ∙ sym (rw (lt-ltb (w * 2 + 1) (length l) (omega arith)) refl))

  module _ (range : ℕ) (t : Tables) (wide : frame_pixels ≤ shortest t) where
    refusal : first_spoilt l < card_words → load_verdict first range t ≡ Err (DamagedWord (first_spoilt l) (word_at l (first_spoilt l)))
    unfolding load_tests first_of
    refusal d =
        rw (le-ltb (length first) image_bytes (let e = first-length in omega arith), le-ltb (shortest t) frame_pixels wide, same_first, lt-ltb (first_spoilt l) card_words d, first_word (first_spoilt l) d) refl

    whole_by : (b : Bool) → ltb (first_spoilt l) card_words ≡ b → judged_of l range t ≡ judged (ends (loaded_of first range t)) (lent_after first range t)
    unfolding judged_of loaded_of lent_after
    whole_by true e = rw (e, refusal (ltb-true (first_spoilt l) card_words e)) refl
    whole_by false e = rw (e, le-ltb (length l) image_bytes long) refl

    pub whole : judged_of l range t ≡ judged (ends (loaded_of first range t)) (lent_after first range t)
    whole = whole_by (ltb (first_spoilt l) card_words) refl

-- ---- a damaged word is reported whatever follows

module _ (lent : List ℕ) (l x : List ℕ) where
  damage-stays : (h : Held) → Says lent l h → ltb (first_spoilt l) card_words ≡ true → (r s : ℕ) (t u : Tables) → (judged_of l r t).answer ≡ (judged_of (l ++ x) s u).answer
  unfolding judged_of
  damage-stays h (sound f e) d r s t u =
      let a = no-first l f in let b = ltb-true (first_spoilt l) card_words d in absurd (let q : ⊥ = omega arith in q)
  damage-stays h (spoilt w low there d f e) k r s t u =
      let n = length-append l x in
      let a = the-first l w low there d f in
      let b = the-first (l ++ x) w low (omega arith) (damaged-more l x w there ∙ d) (λ v j. damaged-more l x v (omega arith) ∙ f v j) in
      rw (a, b, lt-ltb w card_words low, word_more l x w there) refl

  -- the tables stay as they are
  damage-leaves : (h : Held) → Says lent l h → ltb (first_spoilt l) card_words ≡ true → (s : ℕ) (u : Tables) → (judged_of (l ++ x) s u).lent ≡ u
  unfolding judged_of
  damage-leaves h (sound f e) d s u =
      let a = no-first l f in let b = ltb-true (first_spoilt l) card_words d in absurd (let q : ⊥ = omega arith in q)
  damage-leaves h (spoilt w low there d f e) k s u =
      let n = length-append l x in
      let b = the-first (l ++ x) w low (omega arith) (damaged-more l x w there ∙ d) (λ v j. damaged-more l x v (omega arith) ∙ f v j) in
      rw (b, lt-ltb w card_words low) refl

module _ (l : List ℕ) (range : ℕ) (t : Tables) (short : length l < image_bytes) where
  damaged-by : (b : Bool) → ltb (first_spoilt l) card_words ≡ b → (is_none (judged_of l range t).answer) ≡ false → ltb (first_spoilt l) card_words ≡ true
  unfolding judged_of
  damaged-by true e m = e
  damaged-by false e m = absurd (true≢false (rw (e, lt-ltb (length l) image_bytes short) at m))

  -- only a damaged word ends a reading before the card's last byte
  damaged : (is_none (judged_of l range t).answer) ≡ false → ltb (first_spoilt l) card_words ≡ true
  damaged m = damaged-by (ltb (first_spoilt l) card_words) refl m

module _ (lent : List ℕ) (card : length lent ≡ image_bytes) where
  -- before the card's last byte the answer is determined by the bytes, whatever the cuts, ranges and tables
  short-by : (calls : List Event) (m : List ℕ) (range : ℕ) (t : Tables) → length (m ++ taken_of calls) < image_bytes
      → (Wanting m → heard m calls ≡ (judged_of (m ++ taken_of calls) range t).answer)
      → (s : ℕ) (u : Tables) (b : Bool) → (is_none (judged_of m s u).answer) ≡ b → pick b (heard m calls) (judged_of m s u).answer ≡ (judged_of (m ++ taken_of calls) range t).answer
  short-by calls m range t h rest s u true e = rest (wanting m s u e)
  short-by calls m range t h rest s u false e =
      damage-stays lent m (taken_of calls) (state_of lent m) (says lent m (omega arith)) (damaged m s u (let n = length-append m (taken_of calls) in omega arith) e) s range u t

  short-from : (calls : List Call) (l : List ℕ) (range : ℕ) (t : Tables) → Wanting l → length (l ++ bytes_of calls) < image_bytes → heard l (map took calls) ≡ (judged_of (l ++ bytes_of calls) range t).answer
  unfolding taken_of heard
  short-from [] l range t w h = rw (append-nil l, wants l range t w) refl
  short-from (c ∷ calls) l range t w h =
      let m = l ++ brings c in
      let a = append_assoc l (brings c) (bytes_of calls) in
      let k : length (m ++ bytes_of calls) < image_bytes = rw a h in
      short-by (map took calls) m range t k (λ v. short-from calls m range t v k) c.range c.lent (is_none (judged_of m c.range c.lent).answer) refl
      ∙ ap (λ (b : List ℕ). (judged_of b range t).answer) a

  pub heard-short : (calls : List Call) (range : ℕ) (t : Tables) → length (bytes_of calls) < image_bytes → heard [] (map took calls) ≡ (judged_of (bytes_of calls) range t).answer
  heard-short calls range t h = short-from calls [] range t none-want h

  -- ---- the call that brings a card's last byte

  module _ (calls : List Call) (c : Call) (before : length (bytes_of calls) < image_bytes) (long : image_bytes ≤ length (bytes_of calls ++ c.piece))
      (wide : frame_pixels ≤ shortest c.lent) where
    abbrev all : List ℕ
    all = bytes_of calls ++ c.piece

    abbrev by : Judged
    by = judged_of (bytes_of calls) c.range c.lent

    so_far : said_by lent (map took calls) ≡ state_for lent (bytes_of calls) by.answer
    so_far = ap (λ (a : Answer). state_for lent (bytes_of calls) a) (heard-short calls c.range c.lent before)

    -- its answer and tables are those determined by all bytes; also if it repeats the refusal of a damaged word
    last-by : (b : Bool) → (is_none by.answer) ≡ b → ((calling (state_for lent (bytes_of calls) by.answer) c).taken.answer ≡ (judged_of all c.range c.lent).answer)
        × ((calling (state_for lent (bytes_of calls) by.answer) c).lent ≡ (judged_of all c.range c.lent).lent)
    last-by true e =
        let w = wanting (bytes_of calls) c.range c.lent e in
        let a = ap (λ (j : Judged). calling (state_for lent (bytes_of calls) j.answer) c) (wants (bytes_of calls) c.range c.lent w) ∙ taken-call lent card (bytes_of calls) w c wide in
        (ap (λ (k : After). k.taken.answer) a, ap (λ (k : After). k.lent) a)
    last-by false e =
        let a = ended-call (state_for lent (bytes_of calls) by.answer) c e in
        let d = damaged (bytes_of calls) c.range c.lent before e in
        let s = says lent (bytes_of calls) (omega arith) in (
          ap (λ (k : After). k.taken.answer) a ∙ damage-stays lent (bytes_of calls) c.piece (state_of lent (bytes_of calls)) s d c.range c.range c.lent c.lent,
          ap (λ (k : After). k.lent) a ∙ sym (damage-leaves lent (bytes_of calls) c.piece (state_of lent (bytes_of calls)) s d c.range c.lent),
        )

    -- they meet the contract of a load of the card: verdict, record and tables
    pub whole-card : IsSomeAnd (calling (after_calls (begun lent) (map took calls)) c).taken.answer
        (λ (r : Result Loaded Refusal). Loads (take image_bytes all) c.range c.lent (calling (after_calls (begun lent) (map took calls)) c).lent r)
    whole-card =
        let a = last-by (is_none by.answer) refl in
        let w = whole all long c.range c.lent wide in
        let s = calls-mean lent card (map took calls) ∙ so_far in
        let e = ap (λ (k : State). (calling k c).taken.answer) s ∙ a.0 ∙ ap (λ (j : Judged). j.answer) w in
        let f = ap (λ (k : State). (calling k c).lent) s ∙ a.1 ∙ ap (λ (j : Judged). j.lent) w in
        rw (e, f) (loads (take image_bytes all) c.range c.lent)
