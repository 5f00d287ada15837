-- `reader::finished` meets its contract, before the end and after it. Assumes nothing.
use borrow.Author.Tests.{lt-ltb, le-ltb}
use mathlib.Core.Path.{◌≡◌, refl, sym, ap, ◌∙◌}
use mathlib.Core.Bool.{Bool, true, false, not}
use Prim.Native.Nat.{◌<◌, ◌≤◌}
use lib.Dec.{ltb}
use Rattle.std.specs.Prelude.{is_none}
use Rattle.lists.specs.Pick.{pick}
use Rattle.map.specs.Map.{image_bytes}
use Rattle.refusal.specs.declared.Refusal.TheVariants.{ShortImage}
use Rattle.reader.specs.declared.Reading.{Reading}
use Rattle.reader.specs.Calls.{Answer, refused, finishes}
use Rattle.reader.proofs.finished.Goals as goal

-- the cases of the definition
module _ (r : Reading) where
  abbrev by : Bool → Bool → Reading
  by b d = pick b (pick d (record { count = r.count; answer = refused (ShortImage r.count) }) r) r

  early : (a : Answer) → is_none r.answer ≡ true → r.count < image_bytes → a ≡ refused (ShortImage r.count) → record { count = r.count; answer = a } ≡ finishes r
  unfolding finishes
  early a e h f = rw (e, lt-ltb _ _ h, f) refl

  full : is_none r.answer ≡ true → image_bytes ≤ r.count → r ≡ finishes r
  unfolding finishes
  full e h = sym (ap (λ (b : Bool). by b (ltb r.count image_bytes)) e ∙ ap (λ (d : Bool). by true d) (le-ltb _ _ h))

  again : is_none r.answer ≡ false → r ≡ finishes r
  unfolding finishes
  again e = sym (ap (λ (b : Bool). by b (ltb r.count image_bytes)) e)

pub returns-then-count-lt-IMAGE_BYTES : goal.returns-then-count-lt-IMAGE_BYTES
returns-then-count-lt-IMAGE_BYTES c =
    let r = c.args.reading in
    early r _ (ap not c.if-is_none.ensures) c.if-count-lt-IMAGE_BYTES.true refl

pub returns-else-count-lt-IMAGE_BYTES : goal.returns-else-count-lt-IMAGE_BYTES
returns-else-count-lt-IMAGE_BYTES c = full c.args.reading (ap not c.if-is_none.ensures) c.if-count-lt-IMAGE_BYTES.false

pub returns-else-is_none : goal.returns-else-is_none
returns-else-is_none c = again c.args.reading (ap not c.if-is_none.ensures)
