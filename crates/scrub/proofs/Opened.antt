-- What holds once the gate of a scrub has passed, and that it passes if that holds. Assumes nothing.
use Prim.Native.Nat.{◌≤◌}
use mathlib.Core.Path.{◌≡◌, refl}
use mathlib.Core.Bool.{Bool, true, false, ◌||◌, true≢false}
use borrow.Author.Tests.{ltb-false, le-ltb}
use lib.ListN.{length}
use Rattle.std.specs.Prelude.{Ok}
use Rattle.refusal.specs.Order.{first_of}
use Rattle.refusal.proofs.Order.{passed}
use Rattle.map.specs.Map.{image_bytes, checked_words}
use Rattle.scrub.specs.Scrub.{Lent, scrub_tests, scrub_verdict}

either-false : (a b : Bool) → (a || b) ≡ false → (a ≡ false) × (b ≡ false)
either-false true b e = absurd (true≢false e)
either-false false b e = (refl, e)

-- the image and both lists are long enough
pub record Long (before : Lent) : Type 0 where
  pub image : image_bytes ≤ length before.image
  pub changed : checked_words ≤ length before.changed
  pub damaged : checked_words ≤ length before.damaged

pub opened : (before : Lent) → scrub_verdict before ≡ Ok tt → Long before
unfolding scrub_tests
opened before e =
    let p = passed _ _ _ e in
    let q = passed _ _ _ p.1 in
    let b = either-false _ _ q.0 in
    record { image = ltb-false _ _ p.0; changed = ltb-false _ _ b.0; damaged = ltb-false _ _ b.1 }

-- such slices are not refused
pub closed : (before : Lent) → Long before → scrub_verdict before ≡ Ok tt
unfolding scrub_tests first_of
closed before l = simp (le-ltb _ _ l.image, le-ltb _ _ l.changed, le-ltb _ _ l.damaged)
