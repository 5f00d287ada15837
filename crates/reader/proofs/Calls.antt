-- After any calls the state is the one that the bytes taken determine, however they were cut into pieces. Assumes nothing.
use Prim.Native.Nat.{ℕ, ◌+◌, ◌*◌, ◌<◌, ◌≤◌, min}
use mathlib.Core.Path.{◌≡◌, refl, sym, ap, ◌∙◌}
use mathlib.Core.Bool.{Bool, true, false, true≢false}
use mathlib.Core.List.{List, [], ◌∷◌, ◌++◌, append-nil, append_assoc}
use native.Mathlib.Omega.{arith}
use lib.Dec.{eqb, ltb}
use lib.ListN.{length, take, drop, take-append-drop, drop_of_length-le}
use lib.Seq.{length-take-le}
use borrow.Author.Tests.{lt-ltb, le-ltb, le-leb, ltb-true, ltb-false, eqb-true}
use Rattle.std.specs.Prelude.{is_none}
use Rattle.lists.specs.Pick.{pick}
use Rattle.refusal.specs.declared.Refusal.TheVariants.{ShortImage, ShortTable}
use Rattle.util.specs.Words.{word_at}
use Rattle.map.specs.Map.{card_words, image_bytes, frame_pixels}
use Rattle.eeprom.specs.Load.{Tables, shortest}
use Rattle.reader.specs.declared.Reading.{Reading}
use Rattle.reader.specs.Bytes.{Held, held, first_spoilt, kept_of, state_of}
use Rattle.reader.specs.Calls.{Answer, more, refused, Judged, judged, judges, After, after, answering, takes_on, takes, finishes, Call, Event, took, finished, State, calling, leaves, after_calls, begun, brings, taken_of, judged_of, heard, said_by}
use Rattle.reader.proofs.Local.{word_more}
use Rattle.reader.proofs.Taking.{after-damage, past-card}
use Rattle.reader.proofs.Says.{Says, sound, spoilt, stands}
use Rattle.reader.proofs.Means.{no-first, the-first, spoilt-within, more-mean, says}

-- ---- the answer for the bytes kept is that for all bytes

-- a word among the first n bytes is the same in the array
first_word : (l lent : List ℕ) (n w : ℕ) → n ≤ length l → w * 2 + 1 < n → word_at (take n l ++ drop n lent) w ≡ word_at l w
first_word l lent n w h k =
    let e = length-take-le n l h in
    word_more (take n l) (drop n lent) w (omega arith) ∙ sym (word_more (take n l) (drop n l) w (omega arith)) ∙ ap (λ (b : List ℕ). word_at b w) (take-append-drop n l)

module _ (lent l : List ℕ) (card : length lent ≡ image_bytes) (range : ℕ) (t : Tables) where
  by_length : ((f : first_spoilt l ≡ card_words) (b : Bool) → ltb (length l) image_bytes ≡ b
      → judges (stands lent l (min (length l) image_bytes) card_words) range t ≡ judged_of l range t)
  unfolding judges judged_of
  by_length f true e =
      let p = ltb-true (length l) image_bytes e in
      let n : min (length l) image_bytes ≡ length l = omega arith in
      rw (f, n, e) refl
  by_length f false e =
      let p = ltb-false (length l) image_bytes e in
      let n : min (length l) image_bytes ≡ image_bytes = omega arith in
      rw (f, n, e, drop_of_length-le lent {i = image_bytes} (omega arith), append-nil (take image_bytes l)) refl

  a_word : (w : ℕ) → w < card_words → w * 2 + 1 < length l → first_spoilt l ≡ w → judges (stands lent l (w * 2 + 2) w) range t ≡ judged_of l range t
  unfolding judges judged_of
  a_word w low there f = rw (f, lt-ltb w card_words low, first_word l lent (w * 2 + 2) w (omega arith) (omega arith)) refl

  judge-by : (h : Held) → Says lent l h → judges h range t ≡ judged_of l range t
  judge-by h (sound s e) = rw e (by_length (no-first l s) (ltb (length l) image_bytes) refl)
  judge-by h (spoilt w low there d s e) = rw e (a_word w low there (the-first l w low there d s))

  judge-means : judges (state_of lent l) range t ≡ judged_of l range t
  judge-means = judge-by (state_of lent l) (says lent l (omega arith))

-- ---- a call

-- a reading that has ended repeats its answer and changes nothing
pub ended-call : (s : State) (c : Call) → is_none s.reading.answer ≡ false
    → calling s c ≡ after s.image c.lent (record { reading = s.reading; answer = s.reading.answer })
unfolding takes
ended-call s c e =
    ap (λ (b : Bool). pick b (takes_on s.image s.reading c.piece c.range c.lent) (after s.image c.lent (record { reading = s.reading; answer = s.reading.answer }))) e

-- before that, short tables are refused: the state stays, and the reading has not ended
pub short-call : (s : State) (c : Call) → is_none s.reading.answer ≡ true → shortest c.lent < frame_pixels
    → calling s c ≡ after s.image c.lent (record { reading = s.reading; answer = refused ShortTable })
unfolding takes takes_on
short-call s c e h =
    ap (λ (b : Bool). pick b (takes_on s.image s.reading c.piece c.range c.lent) (after s.image c.lent (record { reading = s.reading; answer = s.reading.answer }))) e
    ∙ rw (lt-ltb _ _ h) refl

-- an empty piece changes nothing
pub empty-call : (s : State) (range : ℕ) (t : Tables) → is_none s.reading.answer ≡ true → frame_pixels ≤ shortest t
    → calling s (record { piece = []; range = range; lent = t }) ≡ after s.image t (record { reading = s.reading; answer = s.reading.answer })
unfolding takes takes_on
empty-call s range t e h =
    ap (λ (b : Bool). pick b (takes_on s.image s.reading [] range t) (after s.image t (record { reading = s.reading; answer = s.reading.answer }))) e
    ∙ rw (le-ltb _ _ h) refl

-- the state after these bytes, with the given answer
abbrev pub state_for : List ℕ → List ℕ → Answer → State
state_for lent l a = record { image = (state_of lent l).image; reading = record { count = kept_of l; answer = a } }

-- the outcome of a call that has brought the last of these bytes
abbrev pub answered : List ℕ → List ℕ → ℕ → Tables → After
answered lent l range t =
    let j = judged_of l range t in
    after (state_of lent l).image j.lent (record { reading = record { count = kept_of l; answer = j.answer }; answer = j.answer })

-- bytes after which more are wanted: no damaged word, and fewer than 1,664
pub record Wanting (l : List ℕ) : Type 0 where
  pub sound_words : first_spoilt l ≡ card_words
  pub short : length l < image_bytes

-- ---- whether more bytes are wanted

module _ (l : List ℕ) (range : ℕ) (t : Tables) where
  pub wants : Wanting l → judged_of l range t ≡ judged more t
  unfolding judged_of
  wants w = rw (w.sound_words, lt-ltb _ _ w.short) refl

  wanting-by : (b d : Bool) → ltb (first_spoilt l) card_words ≡ b → ltb (length l) image_bytes ≡ d → (is_none (judged_of l range t).answer) ≡ true → Wanting l
  unfolding judged_of
  wanting-by true d e f m = absurd (true≢false (sym (rw e at m)))
  wanting-by false false e f m = absurd (true≢false (sym (rw (e, f) at m)))
  wanting-by false true e f m = record {
    sound_words = let a = ltb-false (first_spoilt l) card_words e in let b = spoilt-within l in omega arith;
    short = ltb-true (length l) image_bytes f;
  }

  pub wanting : (is_none (judged_of l range t).answer) ≡ true → Wanting l
  wanting m = wanting-by (ltb (first_spoilt l) card_words) (ltb (length l) image_bytes) refl refl m

module _ (lent l : List ℕ) (room : image_bytes ≤ length lent) (range : ℕ) (t : Tables) (x : List ℕ) where
  still-by : (b d : Bool) → ltb (first_spoilt l) card_words ≡ b → ltb (length l) image_bytes ≡ d → (is_none (judged_of l range t).answer) ≡ false → state_of lent (l ++ x) ≡ state_of lent l
  unfolding judged_of state_of kept_of
  still-by true d e f m = sym (more-mean lent l x room) ∙ after-damage x (state_of lent l) e
  still-by false true e f m = absurd (true≢false (rw (e, f) at m))
  still-by false false e f m =
      sym (more-mean lent l x room)
      ∙ past-card x (state_of lent l) e (le-leb image_bytes (kept_of l) (let a = ltb-false (first_spoilt l) card_words e in let b = ltb-false (length l) image_bytes f in omega arith))

  pub still : (is_none (judged_of l range t).answer) ≡ false → state_of lent (l ++ x) ≡ state_of lent l
  still m = still-by (ltb (first_spoilt l) card_words) (ltb (length l) image_bytes) refl refl m

-- ---- a piece that is taken

module _ (lent : List ℕ) (card : length lent ≡ image_bytes) (l : List ℕ) (w : Wanting l) (c : Call) where
  same-state : held (state_of lent l).image (kept_of l) card_words ≡ state_of lent l
  unfolding state_of
  same-state = ap (λ (d : ℕ). held (take (kept_of l) l ++ drop (kept_of l) lent) (kept_of l) d) (sym w.sound_words)

  by_state : answering (state_of lent (l ++ c.piece)) c.range c.lent ≡ answered lent (l ++ c.piece) c.range c.lent
  unfolding state_of
  by_state =
      let m = l ++ c.piece in
      ap (λ (j : Judged). after (take (kept_of m) m ++ drop (kept_of m) lent) j.lent (record { reading = record { count = kept_of m; answer = j.answer }; answer = j.answer }))
      (judge-means lent m card c.range c.lent)

  no_bytes : length c.piece ≡ 0 → c.piece ≡ []
  no_bytes z = by-list c.piece z
    where
      by-list : (p : List ℕ) → length p ≡ 0 → p ≡ []
      by-list [] z = refl
      by-list (b ∷ p) z = absurd (let q : ⊥ = omega arith in q)

  taken-by : (b : Bool) → eqb (length c.piece) 0 ≡ b → frame_pixels ≤ shortest c.lent
      → calling (state_for lent l more) c ≡ answered lent (l ++ c.piece) c.range c.lent
  unfolding takes takes_on
  taken-by true e h =
      rw (le-ltb _ _ h, e, no_bytes (eqb-true _ 0 e), append-nil l, wants l c.range c.lent w) refl
  taken-by false e h = rw (le-ltb _ _ h, e, same-state, more-mean lent l c.piece (omega arith)) by_state

  pub taken-call : frame_pixels ≤ shortest c.lent → calling (state_for lent l more) c ≡ answered lent (l ++ c.piece) c.range c.lent
  taken-call h = taken-by (eqb (length c.piece) 0) refl h

-- ---- any calls

pub none-want : Wanting []
none-want = record { sound_words = no-first [] (λ w _ h. absurd (let q : ⊥ = omega arith in q)); short = omega arith }

-- if no word is damaged and fewer than 1,664 bytes have come, all are kept
pub all-kept : (l : List ℕ) → Wanting l → kept_of l ≡ length l
unfolding kept_of
all-kept l w =
    let s = w.sound_words in
    let h = w.short in
    omega arith

-- `finished` before the end gives refusal 1 and the number of bytes so far
pub finished-early : (lent l : List ℕ) → Wanting l → finishes (state_for lent l more).reading ≡ record { count = length l; answer = refused (ShortImage (length l)) }
unfolding finishes
finished-early lent l w = rw (all-kept l w, lt-ltb _ _ w.short) refl

-- `finished` after the end changes nothing
pub finished-late : (r : Reading) → is_none r.answer ≡ false → finishes r ≡ r
unfolding finishes
finished-late r e =
    ap (λ (b : Bool). pick b (pick (ltb r.count image_bytes) (record { count = r.count; answer = refused (ShortImage r.count) }) r) r) e

-- no call changes the state of a reading that has ended
ended-leaves : (s : State) (k : Event) → is_none s.reading.answer ≡ false → leaves s k ≡ s
ended-leaves s (took c) e = ap (λ (a : After). record { image = a.image; reading = a.taken.reading }) (ended-call s c e)
ended-leaves s finished e = ap (λ (r : Reading). record { image = s.image; reading = r }) (finished-late s.reading e)

ended-calls : (calls : List Event) (s : State) → is_none s.reading.answer ≡ false → after_calls s calls ≡ s
ended-calls [] s e = refl
ended-calls (c ∷ calls) s e = ap (λ (k : State). after_calls k calls) (ended-leaves s c e) ∙ ended-calls calls s e

module _ (lent : List ℕ) (card : length lent ≡ image_bytes) where
  one-call : (l : List ℕ) → Wanting l → (c : Call) (b : Bool) → ltb (shortest c.lent) frame_pixels ≡ b
      → leaves (state_for lent l more) (took c) ≡ state_for lent (l ++ pick b [] c.piece) (judged_of (l ++ pick b [] c.piece) c.range c.lent).answer
  one-call l w c true e =
      ap (λ (a : After). record { image = a.image; reading = a.taken.reading }) (short-call (state_for lent l more) c refl (ltb-true (shortest c.lent) frame_pixels e))
      ∙ rw (append-nil l, wants l c.range c.lent w) refl
  one-call l w c false e =
      ap (λ (a : After). record { image = a.image; reading = a.taken.reading }) (taken-call lent card l w c (ltb-false (shortest c.lent) frame_pixels e))

  -- bytes that come after the end of a reading do not change its state
  on-still : (m x : List ℕ) (range : ℕ) (t : Tables) → (is_none (judged_of m range t).answer) ≡ false → (a : Answer) → state_for lent m a ≡ state_for lent (m ++ x) a
  unfolding state_of
  on-still m x range t e a =
      ap (λ (h : Held). record { image = h.image; reading = record { count = h.count; answer = a } }) (sym (still lent m (omega arith) range t x e))

  goes_on : (calls : List Event) (m : List ℕ) → (Wanting m → after_calls (state_for lent m more) calls ≡ state_for lent (m ++ taken_of calls) (heard m calls))
      → (range : ℕ) (t : Tables) (b : Bool) → (is_none (judged_of m range t).answer) ≡ b
      → after_calls (state_for lent m (judged_of m range t).answer) calls ≡ state_for lent (m ++ taken_of calls) (pick b (heard m calls) (judged_of m range t).answer)
  goes_on calls m rest range t true e =
      let w = wanting m range t e in
      ap (λ (j : Judged). after_calls (state_for lent m j.answer) calls) (wants m range t w) ∙ rest w
  goes_on calls m rest range t false e = ended-calls calls (state_for lent m (judged_of m range t).answer) e ∙ on-still m (taken_of calls) range t e (judged_of m range t).answer

  calls-from : (calls : List Event) (l : List ℕ) → Wanting l → after_calls (state_for lent l more) calls ≡ state_for lent (l ++ taken_of calls) (heard l calls)
  unfolding taken_of heard
  calls-from [] l w = rw (append-nil l) refl
  calls-from (finished ∷ calls) l w =
      let s : State = record { image = (state_of lent l).image; reading = record { count = length l; answer = refused (ShortImage (length l)) } } in
      ap (λ (r : Reading). after_calls (record { image = (state_of lent l).image; reading = r }) calls) (finished-early lent l w)
      ∙ ended-calls calls s refl
      ∙ rw (append-nil l, all-kept l w) refl
  calls-from (took c ∷ calls) l w =
      let m = l ++ brings c in
      ap (λ (k : State). after_calls k calls) (one-call l w c (ltb (shortest c.lent) frame_pixels) refl)
      ∙ goes_on calls m (calls-from calls m) c.range c.lent (is_none (judged_of m c.range c.lent).answer) refl
      ∙ ap (λ (b : List ℕ). state_for lent b (heard l (took c ∷ calls))) (append_assoc l (brings c) (taken_of calls))

  at-start : begun lent ≡ state_for lent [] more
  unfolding state_of kept_of
  at-start = rw none-want.sound_words refl

  -- after any calls the state is the one that the bytes taken determine
  pub calls-mean : (calls : List Event) → after_calls (begun lent) calls ≡ said_by lent calls
  calls-mean calls = ap (λ (s : State). after_calls s calls) at-start ∙ calls-from calls [] none-want
