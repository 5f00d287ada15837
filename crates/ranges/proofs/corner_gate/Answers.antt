-- `ranges::corner_gate` meets its contract: one test. Assumes nothing.
use Rattle.std.proofs.Common.{◌≡◌, ℕ, ◌<◌, ◌≤◌, List, ℤ, sym, ◌∙◌, le-ltb, lt-ltb}
use Rattle.std.specs.Prelude.{⊤, Result, Ok, Err}
use Rattle.refusal.specs.declared.Refusal.{Refusal}
use Rattle.refusal.specs.declared.Refusal.TheVariants.{UnorderedCorners}
use Rattle.refusal.specs.Order.{first_of}
use Rattle.util.proofs.Found.{some-below, none-below}
use Rattle.ranges.specs.Corners.{unrisen, corner_tests}
use Rattle.ranges.proofs.corner_gate.Goals as goal

stops : (n : ℕ) (corners : List ℤ) (r : ℕ) → (unrisen n corners ≡ r) × (unrisen n corners < n) → ◌≡◌ {A = Result ⊤ Refusal} (Err (UnorderedCorners r)) (first_of (corner_tests n corners))
unfolding corner_tests first_of
stops n corners r h = rw (lt-ltb (unrisen n corners) n h.1, h.0)

passes : (n : ℕ) (corners : List ℤ) → n ≤ unrisen n corners → ◌≡◌ {A = Result ⊤ Refusal} (Ok tt) (first_of (corner_tests n corners))
unfolding corner_tests first_of
passes n corners h = rw (le-ltb (unrisen n corners) n h)

pub returns-in-Some : goal.returns-in-Some
returns-in-Some c = stops _ _ _ (some-below _ _ (sym c.first_unrisen.ensures ∙ c.in-Some.is))

pub returns-in-None : goal.returns-in-None
returns-in-None c = passes _ _ (none-below _ _ (sym c.first_unrisen.ensures ∙ c.in-None.is))
