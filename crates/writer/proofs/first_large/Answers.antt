-- `writer::first_large` meets its contract: `position` stops at the first entry that is too large. Assumes nothing.
use Rattle.std.proofs.Common.{◌≡◌, ℕ, ◌<◌, Bool, true, false, List, Option, None, Some, length, leb, le-leb, arith, rules, tests}
use Rattle.std.proofs.lemmas.Bool.{lt-leb}
use Rattle.std.proofs.lemmas.Iterator.{YieldsList-from_slice, IsFirst-from_position}
use Rattle.std.specs.Prelude.{MatchOption}
use Rattle.std.specs.List.{AllWithin, HoldsAt}
use Rattle.hamming.specs.Word.{data_values}
use Rattle.util.specs.Found.{found_below}
use Rattle.util.proofs.Found.{found-at, found-none}
use Rattle.map.specs.Map.{checked_words}
use Rattle.writer.specs.Write.{first_large}
use Rattle.writer.proofs.first_large.Goals as goal

abbrev Is : Bool → ℕ → Type 0
Is b value = leb data_values value ≡ b

by-place : (list : List ℕ) (r : Option ℕ) → length list ≡ checked_words
    → MatchOption r (AllWithin (Is false) list 0 (length list)) (λ i. (i < length list) × HoldsAt (Is true) list i × AllWithin (Is false) list 0 i)
    → r ≡ found_below checked_words (first_large list)
unfolding first_large
by-place list None e h = found-none _ checked_words (λ k l. h k 0 (omega arith) (omega arith))
by-place list (Some i) e h = found-at _ checked_words i (let l = h.0 in omega arith) (h.1 0) (λ k l. h.2 k 0 (omega arith) l)

pub returns : goal.returns
returns c =
    by-place c.args.«data».now _ c.requires
    (IsFirst-from_position _ _ _ (Is true) (Is false) c.position.ensures.ran (YieldsList-from_slice c.args.«data».now c.iter.ensures.rest)
    (λ x q k. le-leb _ _ (search (rules, tests)))
    (λ x q k. (search rules, lt-leb _ _ (search (rules, tests)))))
