-- C's calls do what the reader's own calls do, converted. While more bytes are wanted, the state is its count alone; once the reading has ended, its answer
-- is kept as it is. Assumes nothing.
use Prim.Native.Nat.{ℕ}
use mathlib.Core.Path.{◌≡◌, refl, sym, ap, ◌∙◌}
use mathlib.Core.Bool.{Bool, true, false}
use mathlib.Core.List.{List, [], ◌∷◌, ◌++◌, append-nil, append_assoc, foldl-append}
use native.Mathlib.Omega.{arith}
use lib.ListN.{length}
use borrow.Author.Tests.{eq-eqb, ne_eqb}
use Rattle.std.specs.Prelude.{is_none}
use Rattle.map.specs.Map.{image_bytes}
use Rattle.eeprom.specs.Load.{Tables}
use Rattle.reader.specs.declared.Reading.{Reading}
use Rattle.reader.specs.Calls.{Answer, more, takes, finishes, Call, Event, took, finished, State, calling, leaves, after_calls, begun}
use Rattle.reader.proofs.Ends.{reads, any-state}
use Rattle.capi_reader.specs.declared.Reader.{Reader}
use Rattle.capi_reader.specs.Border.{ended_of, reader_out, reading_in, After, after, after_out, takes_out, finishes_out}
use Rattle.capi_reader.specs.Laws.{StateOut, state_out, calling_out, leaves_out, after_calls_out, Carried, NotEnded}

-- while more bytes are wanted, a reading is determined by its count
abbrev Plain : Reading → Type 0
Plain r = is_none r.answer ≡ true → r.answer ≡ more

pub count-only : (r : Reading) → r.answer ≡ more → reading_in r.count ≡ r
count-only r e = ap (λ (a : Answer). record { count = r.count; answer = a }) (sym e)

-- ---- one call

-- the cases of the definitions
module _ (image : List ℕ) (reader : Reader) (piece : List ℕ) (range : ℕ) (t : Tables) where
  goes_on : reader.ended ≡ 0 → takes_out image reader piece range t ≡ after_out (takes image (reading_in reader.count) piece range t)
  unfolding takes_out
  goes_on e = rw (eq-eqb _ 0 e) refl

  again : (reader.ended ≡ 0 → ⊥) → takes_out image reader piece range t ≡ after image t (record { reader = reader; answer = reader.answer })
  unfolding takes_out
  again e = rw (ne_eqb _ 0 e) refl

finishes-on : (reader : Reader) → reader.ended ≡ 0 → finishes_out reader ≡ reader_out (finishes (reading_in reader.count))
unfolding finishes_out
finishes-on reader e = rw (eq-eqb _ 0 e) refl

finished-again : (reader : Reader) → (reader.ended ≡ 0 → ⊥) → finishes_out reader ≡ reader
unfolding finishes_out
finished-again reader e = rw (ne_eqb _ 0 e) refl

-- the flag of a reading that has ended
one-ends : (more : Bool) → more ≡ false → ended_of more ≡ 0 → ⊥
one-ends more e z = let q : ◌≡◌ {A = ℕ} 1 0 = sym (ap ended_of e) ∙ z in omega arith

module _ (s : State) (p : Plain s.reading) where
  take_by : (c : Call) (b : Bool) → is_none s.reading.answer ≡ b → calling_out (state_out s) c ≡ after_out (calling s c)
  take_by c true e =
      goes_on s.image (reader_out s.reading) c.piece c.range c.lent (ap ended_of e)
      ∙ ap (λ (r : Reading). after_out (takes s.image r c.piece c.range c.lent)) (count-only s.reading (p e))
  take_by c false e =
      again s.image (reader_out s.reading) c.piece c.range c.lent (one-ends (is_none s.reading.answer) e)
      ∙ sym (ap after_out ((any-state s).ended c e))

  finish-by : (b : Bool) → is_none s.reading.answer ≡ b → finishes_out (reader_out s.reading) ≡ reader_out (finishes s.reading)
  finish-by true e =
      finishes-on (reader_out s.reading) (ap ended_of e) ∙ ap (λ (r : Reading). reader_out (finishes r)) (count-only s.reading (p e))
  finish-by false e =
      finished-again (reader_out s.reading) (one-ends (is_none s.reading.answer) e) ∙ sym (ap reader_out ((any-state s).late e))

  one-take : (c : Call) → calling_out (state_out s) c ≡ after_out (calling s c)
  one-take c = take_by c (is_none s.reading.answer) refl

  one-finish : finishes_out (reader_out s.reading) ≡ reader_out (finishes s.reading)
  one-finish = finish-by (is_none s.reading.answer) refl

  one-call : (k : Event) → leaves_out (state_out s) k ≡ state_out (leaves s k)
  one-call (took c) = ap (λ (a : After). record { image = a.image; reader = a.taken.reader }) (one-take c)
  one-call finished = ap (λ (r : Reader). record { image = s.image; reader = r }) one-finish

-- ---- any calls

module _ (lent : List ℕ) (card : length lent ≡ image_bytes) where
  plain : (calls : List Event) → Plain (after_calls (begun lent) calls).reading
  plain calls = (reads lent card).so_far calls

  -- calls after the calls in `done`
  onward : (done calls : List Event) → after_calls_out (state_out (after_calls (begun lent) done)) calls ≡ state_out (after_calls (begun lent) (done ++ calls))
  onward done [] = rw (append-nil done) refl
  onward done (k ∷ calls) =
      ap (λ (s : StateOut). after_calls_out s calls) (one-call (after_calls (begun lent) done) (plain done) k ∙ ap state_out (sym (foldl-append leaves (begun lent) done (k ∷ []))))
      ∙ onward (done ++ k ∷ []) calls
      ∙ ap (λ (l : List Event). state_out (after_calls (begun lent) l)) (append_assoc done (k ∷ []) calls)

  pub carried : Carried lent
  carried = record {
    state = onward [];
    call = λ calls c. ap (λ (s : StateOut). calling_out s c) (onward [] calls) ∙ one-take (after_calls (begun lent) calls) (plain calls) c;
  }

-- ---- any count

module _ (image : List ℕ) (count : ℕ) where
  abbrev here : State
  here = record { image = image; reading = reading_in count }

  pub not-ended : NotEnded image count
  not-ended = record {
    empty = λ range t h. one-take here (λ _. refl) (record { piece = []; range = range; lent = t }) ∙ ap after_out ((any-state here).empty range t refl h);
    early = λ h. one-finish here (λ _. refl) ∙ ap reader_out ((any-state here).early refl h);
    full = λ h. one-finish here (λ _. refl) ∙ ap reader_out ((any-state here).full h);
  }
