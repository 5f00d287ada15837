-- `capi_reader::loamchalice_reader_finished` meets its contract, before the end and after it. Assumes nothing.
use borrow.Author.Tests.{eq-eqb, ne_eqb}
use mathlib.Core.Path.{◌≡◌, refl}
use Rattle.reader.specs.declared.Reading.{Reading}
use Rattle.reader.specs.Calls.{finishes}
use Rattle.capi_reader.specs.declared.Reader.{Reader}
use Rattle.capi_reader.specs.Border.{reader_out, reading_in, finishes_out}
use Rattle.capi_reader.proofs.loamchalice_reader_finished.Goals as goal

ends : (reader q : Reader) (given told : Reading) → reader.ended ≡ 0 → given ≡ reading_in reader.count → told ≡ finishes given → q ≡ reader_out told → q ≡ finishes_out reader
unfolding finishes_out
ends reader q given told e f g h = rw (eq-eqb _ 0 e, ← f, ← g) h

pub returns-then-reader-eq0 : goal.returns-then-reader-eq0
returns-then-reader-eq0 c = ends _ _ _ _ c.if-reader-eq0.true c.reading_at-reading.ensures c.finished.ensures c.into.ensures

pub returns : goal.returns
unfolding finishes_out
returns c = rw (ne_eqb _ 0 c.if-reader-eq0.false) refl
