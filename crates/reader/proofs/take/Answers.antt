-- `reader::take` meets its contract: a reading that has ended repeats its answer. Assumes nothing.
use mathlib.Core.Path.{◌≡◌, sym, ap, ◌∙◌}
use mathlib.Core.Bool.{Bool, true, false, not}
use mathlib.Core.List.{List}
use Prim.Native.Nat.{ℕ}
use Rattle.std.specs.Prelude.{is_none}
use Rattle.lists.specs.Pick.{pick}
use Rattle.eeprom.specs.Load.{Tables, tables}
use Rattle.reader.specs.declared.Reading.{Reading}
use Rattle.reader.specs.Calls.{After, after, takes_on, takes}
use Rattle.reader.proofs.take.Goals as goal

-- the cases of the definition
module _ (image : List ℕ) (reading : Reading) (piece : List ℕ) (range : ℕ) (t : Tables) where
  abbrev by : Bool → After
  by b = pick b (takes_on image reading piece range t) (after image t (record { reading = reading; answer = reading.answer }))

  goes_on : is_none reading.answer ≡ true → takes_on image reading piece range t ≡ takes image reading piece range t
  unfolding takes
  goes_on e = sym (ap by e)

  again : is_none reading.answer ≡ false → after image t (record { reading = reading; answer = reading.answer }) ≡ takes image reading piece range t
  unfolding takes
  again e = sym (ap by e)

pub returns-then-is_none : goal.returns-then-is_none
returns-then-is_none c =
    let a = c.args in
    let lent = tables a.offsets0.now a.offsets1.now a.alpha.now a.k_v.now a.k_ta.now in
    c.take_on.ensures ∙ goes_on a.image.now a.reading a.piece.now a.basic_range lent (ap not c.if-is_none.ensures)

pub returns : goal.returns
returns c =
    let a = c.args in
    let lent = tables a.offsets0.now a.offsets1.now a.alpha.now a.k_v.now a.k_ta.now in
    again a.image.now a.reading a.piece.now a.basic_range lent (ap not c.if-is_none.ensures)
