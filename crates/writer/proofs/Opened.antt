-- What holds once the gate of a writing has passed, and that it passes if that holds. Assumes nothing.
use Prim.Native.Nat.{ℕ, ◌≤◌}
use mathlib.Core.Path.{◌≡◌}
use mathlib.Core.Bool.{Bool}
use borrow.Author.Tests.{ltb-false, eqb-true, leb-false, not-false, le-ltb, lt-leb, eq-eqb}
use native.Mathlib.Nat.{le_of_eq}
use native.Mathlib.Omega.{arith}
use lib.Dec.{leb}
use lib.ListN.{get_or}
use Rattle.lists.specs.First.{first_from}
use Rattle.lists.proofs.First.{is-first, first-is}
use Rattle.std.specs.Prelude.{Ok}
use Rattle.refusal.specs.Order.{first_of}
use Rattle.refusal.proofs.Order.{passed}
use Rattle.hamming.specs.Word.{data_values}
use Rattle.map.specs.Map.{image_bytes, checked_words}
use Rattle.listing.specs.Index.{Lists}
use Rattle.writer.specs.Write.{first_large, write_tests}
use Rattle.writer.specs.Inner.{Fit}

-- the lists fit, and the image is long enough
pub opened : (from : Lists) (image : ℕ) → first_of (write_tests from image) ≡ Ok tt → Fit from × (image_bytes ≤ image)
unfolding write_tests first_large
opened from image e =
    let p = passed _ _ _ e in
    let q = passed _ _ _ p.1 in
    let r = passed _ _ _ q.1 in
    let s = passed _ _ _ r.1 in
    let f = is-first (λ index. leb data_values (get_or from.checked index 0)) 0 checked_words in
    let l : checked_words ≤ first_from (λ index. leb data_values (get_or from.checked index 0)) 0 checked_words = ltb-false _ _ s.0 in (
      record {
        checked = eqb-true _ _ (not-false _ p.0);
        unchecked = eqb-true _ _ (not-false _ q.0);
        small = λ index h. leb-false _ _ (f.before index (omega arith) (omega arith));
      },
      ltb-false _ _ r.0,
    )

-- such lists and images are not refused
pub closed : (from : Lists) (image : ℕ) → Fit from → image_bytes ≤ image → first_of (write_tests from image) ≡ Ok tt
unfolding write_tests first_of first_large
closed from image f h =
    let p : ℕ → Bool = λ index. leb data_values (get_or from.checked index 0) in
    let e : checked_words ≡ first_from p 0 checked_words =
    first-is p 0 checked_words checked_words (record {
      from = omega arith;
      within = omega arith;
      before = λ k a b. lt-leb _ _ (f.small k b);
      at = λ l. absurd (let q : ⊥ = omega arith in q);
    }) in
    simp (eq-eqb _ _ f.checked, eq-eqb _ _ f.unchecked, le-ltb _ _ h, le-ltb _ _ (le_of_eq e))
