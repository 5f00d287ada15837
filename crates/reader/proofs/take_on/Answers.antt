-- `reader::take_on` meets its contract: short tables are refused, an empty piece changes nothing, otherwise the bytes are taken. Assumes nothing.
use borrow.Author.Tests.{lt-ltb, le-ltb, eq-eqb, ne_eqb}
use mathlib.Core.Path.{◌≡◌, refl}
use mathlib.Core.List.{List}
use Prim.Native.Nat.{ℕ, ◌<◌, ◌≤◌}
use lib.ListN.{length}
use Rattle.map.specs.Map.{card_words, frame_pixels}
use Rattle.refusal.specs.declared.Refusal.TheVariants.{ShortTable}
use Rattle.eeprom.specs.Load.{Tables, tables, shortest}
use Rattle.reader.specs.declared.Kept.{Kept}
use Rattle.reader.specs.declared.Reading.{Reading}
use Rattle.reader.specs.Bytes.{Held, held, Keeps, fed}
use Rattle.reader.specs.Calls.{Answer, refused, judged, judges, after, takes_on}
use Rattle.reader.proofs.take_on.Goals as goal

-- the cases of the definition
module _ (image : List ℕ) (reading : Reading) (piece : List ℕ) (range : ℕ) (t : Tables) where
  short : (n : ℕ) → n ≡ shortest t → n < frame_pixels → after image t (record { reading = reading; answer = refused ShortTable }) ≡ takes_on image reading piece range t
  unfolding takes_on
  short n e l = rw (lt-ltb _ _ (rw e at l)) refl

  nothing : (n : ℕ) → n ≡ shortest t → frame_pixels ≤ n → length piece ≡ 0 → after image t (record { reading = reading; answer = reading.answer }) ≡ takes_on image reading piece range t
  unfolding takes_on
  nothing n e l z = rw (le-ltb _ _ (rw e at l), eq-eqb _ 0 z) refl

  taken : (n : ℕ) → n ≡ shortest t → frame_pixels ≤ n → (length piece ≡ 0 → ⊥) → {image' : List ℕ} {k : Kept} {a : Answer} {u : Tables}
      → Keeps image' k (fed (held image reading.count card_words) piece)
      → ((h : Held) → Keeps image' k h → judged a u ≡ judges h range t)
      → after image' u (record { reading = record { count = k.count; answer = a }; answer = a }) ≡ takes_on image reading piece range t
  unfolding takes_on
  taken n e l z f j =
      let g = j (fed (held image reading.count card_words) piece) f in
      rw (le-ltb _ _ (rw e at l), ne_eqb _ 0 z, f.image_is, f.count, ← g) refl

pub returns-then-table-lt-PIXELS : goal.returns-then-table-lt-PIXELS
returns-then-table-lt-PIXELS c =
    let a = c.args in
    let lent = tables a.offsets0.now a.offsets1.now a.alpha.now a.k_v.now a.k_ta.now in
    short a.image.now a.reading a.piece.now a.basic_range lent _ c.shortest_of-table.ensures c.if-table-lt-PIXELS.true

pub returns-then-piece-eq0 : goal.returns-then-piece-eq0
returns-then-piece-eq0 c =
    let a = c.args in
    let lent = tables a.offsets0.now a.offsets1.now a.alpha.now a.k_v.now a.k_ta.now in
    nothing a.image.now a.reading a.piece.now a.basic_range lent _ c.shortest_of-table.ensures c.if-table-lt-PIXELS.false c.if-piece-eq0.true

pub returns : goal.returns
returns c =
    let a = c.args in
    let lent = tables a.offsets0.now a.offsets1.now a.alpha.now a.k_v.now a.k_ta.now in
    taken a.image.now a.reading a.piece.now a.basic_range lent _ c.shortest_of-table.ensures c.if-table-lt-PIXELS.false c.if-piece-eq0.false
    c.feed-kept.ensures c.judge-answer.ensures
