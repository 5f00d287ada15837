-- `burn::first_unchecked` meets its contract: `find` stops at the first word that passes the test. Assumes nothing.
use Rattle.std.proofs.Common.{◌≡◌, true, false, rules, tests}
use Rattle.std.proofs.lemmas.Iterator.{first_from_Range}
use Rattle.util.proofs.Found.{found-by-find}
use Rattle.map.specs.Map.{card_words}
use Rattle.burn.specs.Burn.{unchecked_at}
use Rattle.burn.proofs.first_unchecked.Goals as goal

pub returns : goal.returns
returns c =
    let present = c.args.present.now in
    let wanted = c.args.wanted.now in
    found-by-find (unchecked_at present wanted) card_words _
    (first_from_Range _ _ _ _ (λ w. unchecked_at present wanted w ≡ true) (λ w. unchecked_at present wanted w ≡ false) c.find.ensures.ran
    (λ x q k. search (rules, tests))
    (λ x q k. (search rules, search (rules, tests))))
