-- Proves specs/Laws: a reading ends within 1,664 pieces that are not empty; in any state, a call that wants more or refuses leaves the tables as they
-- are. Assumes nothing.
use Prim.Native.Nat.{ℕ, ◌<◌, ◌≤◌}
use mathlib.Core.Path.{◌≡◌, refl, sym, ap, ◌∙◌}
use mathlib.Core.Bool.{Bool, true, false, true≢false}
use mathlib.Core.List.{List, [], ◌∷◌, ◌++◌, append-nil, append_assoc}
use native.Mathlib.Omega.{arith}
use lib.Dec.{eqb, ltb}
use lib.ListN.{length, length-append}
use borrow.Author.Tests.{lt-ltb, le-ltb}
use Rattle.std.specs.Prelude.{⊤, Result, Ok, Err, is_none}
use Rattle.lists.specs.Pick.{pick}
use Rattle.refusal.specs.declared.Refusal.{Refusal}
use Rattle.refusal.specs.declared.Refusal.TheVariants.{ShortImage}
use Rattle.refusal.specs.Refusal.{unless}
use Rattle.map.specs.Map.{card_words, image_bytes, frame_pixels}
use Rattle.card.specs.Card.{data_at}
use Rattle.eeprom.specs.declared.Loaded.{Loaded}
use Rattle.eeprom.specs.Load.{Tables, shortest, filled_tables, load_verdict, giving, loaded}
use Rattle.reader.specs.declared.Reading.{Reading}
use Rattle.reader.specs.Bytes.{Held, held, fed}
use Rattle.reader.specs.Calls.{loaded_of, lent_after, more, ends, refused, judges, takes_on, takes, finishes, Call, Event, took, finished, State, calling, after_calls, begun, brings, taken_of, judged_of, heard}
use Rattle.reader.specs.Laws.{offers, offered, Reads, AnyState}
use Rattle.reader.proofs.Calls.{Wanting, ended-call, short-call, empty-call, finished-late, wanting, none-want, calls-mean}
use Rattle.reader.proofs.Whole.{whole-card}

-- ---- a reading ends in time

-- if more bytes are wanted after some calls, the bytes taken have no damaged word and are fewer than 1,664
wanting-by : (calls : List Event) (m : List ℕ) → (Wanting m → (is_none (heard m calls)) ≡ true → Wanting (m ++ taken_of calls))
    → (s : ℕ) (u : Tables) (b : Bool) → (is_none (judged_of m s u).answer) ≡ b → is_none (pick b (heard m calls) (judged_of m s u).answer) ≡ true → Wanting (m ++ taken_of calls)
wanting-by calls m rest s u true e k = rest (wanting m s u e) k
wanting-by calls m rest s u false e k = absurd (true≢false (sym k ∙ e))

wanting-from : (calls : List Event) (l : List ℕ) → Wanting l → (is_none (heard l calls)) ≡ true → Wanting (l ++ taken_of calls)
unfolding taken_of heard
wanting-from [] l w k = rw (append-nil l) w
wanting-from (finished ∷ calls) l w k = absurd (true≢false (sym k))
wanting-from (took c ∷ calls) l w k =
    let m = l ++ brings c in
    rw (append_assoc l (brings c) (taken_of calls)) at (wanting-by calls m (wanting-from calls m) c.range c.lent (is_none (judged_of m c.range c.lent).answer) refl k)

-- then the answer is `more`
only-by : (calls : List Event) (m : List ℕ) → ((is_none (heard m calls)) ≡ true → heard m calls ≡ more)
    → (s : ℕ) (u : Tables) (b : Bool) → (is_none (judged_of m s u).answer) ≡ b → is_none (pick b (heard m calls) (judged_of m s u).answer) ≡ true
    → pick b (heard m calls) (judged_of m s u).answer ≡ more
only-by calls m rest s u true e k = rest k
only-by calls m rest s u false e k = absurd (true≢false (sym k ∙ e))

only : (calls : List Event) (l : List ℕ) → (is_none (heard l calls)) ≡ true → heard l calls ≡ more
unfolding heard
only [] l k = refl
only (finished ∷ calls) l k = absurd (true≢false (sym k))
only (took c ∷ calls) l k =
    let m = l ++ brings c in
    only-by calls m (only calls m) c.range c.lent (is_none (judged_of m c.range c.lent).answer) refl k

-- then there was no `finished`, so each piece that is not empty brought at least one byte
one_of : (c : Call) (b : Bool) → ltb (shortest c.lent) frame_pixels ≡ b → offers (took c) ≤ length (brings c)
one_of c true e = rw e (omega arith)
one_of c false e = rw e (omega arith)

enough-by : (calls : List Event) (m : List ℕ) → ((is_none (heard m calls)) ≡ true → offered calls ≤ length (taken_of calls))
    → (s : ℕ) (u : Tables) (b : Bool) → (is_none (judged_of m s u).answer) ≡ b → is_none (pick b (heard m calls) (judged_of m s u).answer) ≡ true → offered calls ≤ length (taken_of calls)
enough-by calls m rest s u true e k = rest k
enough-by calls m rest s u false e k = absurd (true≢false (sym k ∙ e))

enough : (calls : List Event) (l : List ℕ) → (is_none (heard l calls)) ≡ true → offered calls ≤ length (taken_of calls)
unfolding taken_of heard offered
enough [] l k = omega arith
enough (finished ∷ calls) l k = absurd (true≢false (sym k))
enough (took c ∷ calls) l k =
    let m = l ++ brings c in
    let h = enough-by calls m (enough calls m) c.range c.lent (is_none (judged_of m c.range c.lent).answer) refl k in
    let o = one_of c (ltb (shortest c.lent) frame_pixels) refl in
    omega (arith, length-append (brings c) (taken_of calls))

module _ (lent : List ℕ) (card : length lent ≡ image_bytes) where
  heard-by : (calls : List Event) → image_bytes ≤ offered calls → (b : Bool) → (is_none (heard [] calls)) ≡ b → (is_none (heard [] calls)) ≡ false
  heard-by calls h false e = e
  heard-by calls h true e =
      let w = (wanting-from calls [] none-want e).short in
      let n = enough calls [] e in
      absurd (let q : ⊥ = omega arith in q)

  heard-in-time : (calls : List Event) → image_bytes ≤ offered calls → is_none (after_calls (begun lent) calls).reading.answer ≡ false
  heard-in-time calls h = ap (λ (s : State). (is_none s.reading.answer)) (calls-mean lent card calls) ∙ heard-by calls h (is_none (heard [] calls)) refl

  more-only : (calls : List Event) → is_none (after_calls (begun lent) calls).reading.answer ≡ true → (after_calls (begun lent) calls).reading.answer ≡ more
  more-only calls k =
      let e = ap (λ (s : State). s.reading.answer) (calls-mean lent card calls) in
      e ∙ only calls [] (sym (ap is_none e) ∙ k)

  -- the laws for an array of a card's size and any calls
  pub reads : Reads lent
  reads = record { means = calls-mean lent card; so_far = more-only; in_time = heard-in-time; whole = whole-card lent card }

-- ---- tables, in any state

-- a load that is refused leaves the tables as they were
refused-load : (v : Result ⊤ Refusal) (l : Loaded) (new old : Tables) (r : Refusal) → ends (giving v l) ≡ refused r → unless v new old ≡ old
refused-load (Ok _) l new old r m = let z : ◌≡◌ {A = ℕ} 0 1 = cc in absurd (let q : ⊥ = omega arith in q)
refused-load (Err refusal) l new old r m = refl

module _ (h : Held) (range : ℕ) (t : Tables) where
  wanted_by : (b d : Bool) → ltb h.damaged card_words ≡ b → ltb h.count image_bytes ≡ d → (is_none (judges h range t).answer) ≡ true → (judges h range t).lent ≡ t
  unfolding judges
  wanted_by true d e f m = rw e refl
  wanted_by false true e f m = rw (e, f) refl
  wanted_by false false e f m = absurd (true≢false (sym (rw (e, f) at m)))

  refused-by : (b d : Bool) → ltb h.damaged card_words ≡ b → ltb h.count image_bytes ≡ d → (r : Refusal) → (judges h range t).answer ≡ refused r → (judges h range t).lent ≡ t
  unfolding judges loaded_of lent_after
  refused-by true d e f r m = rw e refl
  refused-by false true e f r m = rw (e, f) refl
  refused-by false false e f r m = rw (e, f) (refused-load (load_verdict h.image range t) (loaded h.image range) (filled_tables (data_at h.image) t) t r (rw (e, f) at m))

module _ (s : State) (c : Call) where
  abbrev fedBy : Held
  fedBy = fed (held s.image s.reading.count card_words) c.piece

  wanted-call : (a b d : Bool) → is_none s.reading.answer ≡ a → ltb (shortest c.lent) frame_pixels ≡ b → eqb (length c.piece) 0 ≡ d
      → (is_none (calling s c).taken.answer) ≡ true → (calling s c).lent ≡ c.lent
  unfolding takes takes_on
  wanted-call false b d e f g m = rw e refl
  wanted-call true true d e f g m = rw (e, f) refl
  wanted-call true false true e f g m = rw (e, f, g) refl
  wanted-call true false false e f g m =
      rw (e, f, g) (wanted_by fedBy c.range c.lent (ltb fedBy.damaged card_words) (ltb fedBy.count image_bytes) refl refl (rw (e, f, g) at m))

  refused-call : (a b d : Bool) → is_none s.reading.answer ≡ a → ltb (shortest c.lent) frame_pixels ≡ b → eqb (length c.piece) 0 ≡ d
      → (r : Refusal) → (calling s c).taken.answer ≡ refused r → (calling s c).lent ≡ c.lent
  unfolding takes takes_on
  refused-call false b d e f g r m = rw e refl
  refused-call true true d e f g r m = rw (e, f) refl
  refused-call true false true e f g r m = rw (e, f, g) refl
  refused-call true false false e f g r m =
      rw (e, f, g) (refused-by fedBy c.range c.lent (ltb fedBy.damaged card_words) (ltb fedBy.count image_bytes) refl refl r (rw (e, f, g) at m))

  tables-wanting : (is_none (calling s c).taken.answer) ≡ true → (calling s c).lent ≡ c.lent
  tables-wanting m = wanted-call (is_none s.reading.answer) (ltb (shortest c.lent) frame_pixels) (eqb (length c.piece) 0) refl refl refl m

  tables-refused : (r : Refusal) → (calling s c).taken.answer ≡ refused r → (calling s c).lent ≡ c.lent
  tables-refused r m = refused-call (is_none s.reading.answer) (ltb (shortest c.lent) frame_pixels) (eqb (length c.piece) 0) refl refl refl r m

-- ---- any state

module _ (r : Reading) where
  abbrev by : Bool → Bool → Reading
  by b d = pick b (pick d (record { count = r.count; answer = refused (ShortImage r.count) }) r) r

  finished-early : is_none r.answer ≡ true → r.count < image_bytes → finishes r ≡ record { count = r.count; answer = refused (ShortImage r.count) }
  unfolding finishes
  finished-early e h = ap (λ (b : Bool). by b (ltb r.count image_bytes)) e ∙ ap (λ (d : Bool). by true d) (lt-ltb _ _ h)

  full_by : (b : Bool) → by b false ≡ r
  full_by true = refl
  full_by false = refl

  finished-full : image_bytes ≤ r.count → finishes r ≡ r
  unfolding finishes
  finished-full h = ap (λ (d : Bool). by (is_none r.answer) d) (le-ltb _ _ h) ∙ full_by (is_none r.answer)

pub any-state : (s : State) → AnyState s
any-state s = record {
  ended = ended-call s;
  short = short-call s;
  empty = empty-call s;
  wanting = tables-wanting s;
  refusing = tables-refused s;
  early = finished-early s.reading;
  full = finished-full s.reading;
  late = finished-late s.reading;
}
