-- `capi_reader::loamchalice_reader_take` meets its contract, before the end and after it. Assumes nothing.
use borrow.Author.Tests.{eq-eqb, ne_eqb}
use mathlib.Core.Path.{◌≡◌, refl, sym, ap, ◌∙◌}
use mathlib.Core.Bool.{true, not, true≢false}
use mathlib.Core.List.{List}
use Prim.Native.Nat.{ℕ}
use Rattle.std.specs.Prelude.{is_none, None, Some}
use Rattle.eeprom.specs.Load.{Tables, tables}
use Rattle.reader.specs.declared.Reading.{Reading}
use Rattle.reader.specs.declared.Taken as inner
use Rattle.reader.specs.Calls as calls
use Rattle.reader.specs.Calls.{Answer, more, takes}
use Rattle.capi_cards.specs.declared.Load.{Load}
use Rattle.capi_reader.specs.declared.Reader.{Reader}
use Rattle.capi_reader.specs.declared.Taken.{Taken}
use Rattle.capi_reader.specs.Border.{answer_out, reader_out, reading_in, wanting_out, after, takes_out}
use Rattle.capi_reader.proofs.Carried.{count-only}
use Rattle.capi_reader.proofs.loamchalice_reader_take.Goals as goal

module _ (image : List ℕ) (reader : Reader) (piece : List ℕ) (range : ℕ) (t : Tables) where
  goes_on : {image' : List ℕ} {u : Tables} {given : Reading} {told : inner.Taken} {q : Reader} {a : Load} → reader.ended ≡ 0 → given ≡ reading_in reader.count
      → calls.after image' u told ≡ takes image given piece range t → q ≡ reader_out told.reading → a ≡ answer_out told.answer
      → after image' u (record { reader = q; answer = a }) ≡ takes_out image reader piece range t
  unfolding takes_out
  goes_on e f g h k = rw (eq-eqb _ 0 e, ← f, ← g, h, k) refl

-- an answer that is missing
none_of : (a : Answer) → is_none a ≡ true → a ≡ more
none_of None e = refl
none_of (Some said) e = absurd (true≢false (sym e))

module _ (image : List ℕ) (reader : Reader) (piece : List ℕ) (range : ℕ) (t : Tables) where
  -- more bytes are wanted
  wants : {image' : List ℕ} {u : Tables} {given : Reading} {told : inner.Taken} {q : Taken} → reader.ended ≡ 0 → given ≡ reading_in reader.count
      → calls.after image' u told ≡ takes image given piece range t → is_none told.reading.answer ≡ true → is_none told.answer ≡ true
      → q ≡ wanting_out told.reading.count → after image' u q ≡ takes_out image reader piece range t
  wants {image'} {u} {given} {told} e f g h k l =
      ap (λ (r : Taken). after image' u r) l
      ∙ goes_on image reader piece range t e f g (ap reader_out (count-only told.reading (none_of told.reading.answer h))) (ap answer_out (sym (none_of told.answer k)))

pub returns-then-is_none-2 : goal.returns-then-is_none-2
returns-then-is_none-2 c =
    let a = c.args in
    wants a.image.now a.reader a.piece.now a.basic_range (tables a.offsets0.now a.offsets1.now a.alpha.now a.k_v.now a.k_ta.now)
    c.if-reader-eq0.true c.reading_at-reading.ensures c.take-taken.ensures (ap not c.if-is_none.ensures) (ap not c.if-is_none-2.ensures)
    c.wanting.ensures

pub returns-then-reader-eq0 : goal.returns-then-reader-eq0
returns-then-reader-eq0 c =
    let a = c.args in
    goes_on a.image.now a.reader a.piece.now a.basic_range (tables a.offsets0.now a.offsets1.now a.alpha.now a.k_v.now a.k_ta.now)
    c.if-reader-eq0.true c.reading_at-reading.ensures c.take-taken.ensures c.into.ensures c.answer_out.ensures

pub returns : goal.returns
unfolding takes_out
returns c = rw (ne_eqb _ 0 c.if-reader-eq0.false) refl
