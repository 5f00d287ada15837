-- What holds once the gate of a reading has passed, and that it passes if that holds. Assumes nothing.
use Prim.Native.Nat.{ℕ, ◌≤◌}
use mathlib.Core.Path.{◌≡◌, refl}
use mathlib.Core.Bool.{Bool, true, false, ◌||◌, true≢false}
use mathlib.Core.List.{List}
use borrow.Author.Tests.{ltb-false, le-ltb}
use lib.ListN.{length}
use Rattle.std.specs.Prelude.{Ok}
use Rattle.refusal.specs.Order.{first_of}
use Rattle.refusal.proofs.Order.{passed}
use Rattle.map.specs.Map.{card_words, image_bytes, checked_words}
use Rattle.card.specs.Card.{first_damaged}
use Rattle.listing.specs.Index.{unchecked_words}
use Rattle.listing.specs.Read.{read_tests}

either-false : (a b : Bool) → (a || b) ≡ false → (a ≡ false) × (b ≡ false)
either-false true b e = absurd (true≢false e)
either-false false b e = (refl, e)

-- an image, and lengths of two lists, that pass the tests
pub record Sound (image : List ℕ) (first second : ℕ) : Type 0 where
  pub image-long : image_bytes ≤ length image
  pub first-long : checked_words ≤ first
  pub second-long : unchecked_words ≤ second
  pub none : card_words ≤ first_damaged image

pub opened : (image : List ℕ) (first second : ℕ) → first_of (read_tests image first second) ≡ Ok tt → Sound image first second
unfolding read_tests
opened image first second e =
    let p = passed _ _ _ e in
    let q = passed _ _ _ p.1 in
    let r = passed _ _ _ q.1 in
    let b = either-false _ _ q.0 in
    record {
      image-long = ltb-false _ _ p.0;
      first-long = ltb-false _ _ b.0;
      second-long = ltb-false _ _ b.1;
      none = ltb-false _ _ r.0;
    }

-- they are not refused
pub closed : (image : List ℕ) (first second : ℕ) → Sound image first second → first_of (read_tests image first second) ≡ Ok tt
unfolding read_tests first_of
closed image first second s =
    simp (le-ltb _ _ s.image-long, le-ltb _ _ s.first-long, le-ltb _ _ s.second-long, le-ltb _ _ s.none)
