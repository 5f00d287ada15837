-- `eeprom::load` meets its contract: the gate decides, and if it passes the tables are filled from the decoded words. Assumes nothing.
use borrow.Author.Rules.{rules}
use mathlib.Core.Path.{refl, sym, ap, ◌∙◌, subst}
use Prim.Native.Nat.{ℕ}
use Rattle.card.specs.Inner.{at}
use Rattle.card.proofs.Data.{words_are}
use Rattle.eeprom.specs.Load.{tables}
use Rattle.eeprom.specs.Inner.{Passed}
use Rattle.eeprom.proofs.Opened.{given, opened}
use Rattle.eeprom.proofs.load.Goals as goal

pub fill_all-calibration-requires : goal.fill_all-calibration-requires
fill_all-calibration-requires c =
    let a = c.args in
    let lent = tables a.offsets0.now a.offsets1.now a.alpha.now a.k_v.now a.k_ta.now in
    let e = (given _ _ _ (rw c.shortest_of-table.ensures at c.in_ok-mending.ensures.value)).0 in
    subst (λ (w : ℕ → ℕ). Passed w a.basic_range lent) (sym (ap at c.in_ok-mending.ensures.words_after ∙ words_are a.image.now _ (search rules)))
    (opened a.image.now a.basic_range lent e)

pub returns : goal.returns
returns c =
    let e = given _ _ _ (rw c.shortest_of-table.ensures at c.in_ok-mending.ensures.value) in
    let q = ap at c.in_ok-mending.ensures.words_after ∙ words_are c.args.image.now _ (search rules) in
    record {
      result = rw (e.0, e.1, c.fill_all-calibration.ensures.value, q) refl;
      lent = rw e.0 (rw q at c.fill_all-calibration.ensures.k_ta_after);
    }
