-- `burn::differs` meets its contract. Assumes nothing.
use mathlib.Core.Path.{◌≡◌, refl}
use mathlib.Core.Bool.{not}
use Prim.Native.Nat.{ℕ}
use lib.Dec.{eqb}
use Rattle.burn.specs.Burn.{differ_at}
use Rattle.burn.proofs.differs.Goals as goal

other : {a b x y : ℕ} → a ≡ x → b ≡ y → not (eqb a b) ≡ not (eqb x y)
other e f = rw (e, f) refl

pub returns : goal.returns
unfolding differ_at
returns c = other c.word_at-old.ensures c.word_at-new.ensures
