-- Sums of readings: one more at either end, and their bounds. Assumes nothing.
use Prim.Native.Nat.{ℕ, zero, suc, ◌+◌, ◌*◌, ◌<◌, ◌≤◌}
use mathlib.Core.Path.{◌≡◌, refl, sym, ap, ◌∙◌, subst}
use mathlib.Core.List.{List, [], ◌∷◌}
use native.Mathlib.Omega.{arith}
use lib.IntN.{ℤ, pos, neg_ℤ, ◌+ℤ◌, ◌-ℤ◌, +ℤ_idl, +ℤ_idr, +ℤ_assoc, +ℤ_comm, +ℤ_invr}
use lib.ListN.{take, get_or}
use lib.Signed.{mag}
use Rattle.lists.specs.All.{All, none, ◌also◌}
use Rattle.util.proofs.Range.{sum-mag}
use Rattle.filter.specs.Latest.{total, Raw}

-- the sum of one more entry at the end; past the end it adds nothing
pub one_further : (n : ℕ) (xs : List ℤ) → total (take (suc n) xs) ≡ total (take n xs) +ℤ get_or xs n (pos 0)
unfolding total
one_further zero [] = refl
one_further zero (x ∷ xs) = +ℤ_comm x (pos 0)
one_further (suc n) [] = refl
one_further (suc n) (x ∷ xs) = ap (λ (z : ℤ). x +ℤ z) (one_further n xs) ∙ sym (+ℤ_assoc x (total (take n xs)) (get_or xs n (pos 0)))

exchanged : (x t o : ℤ) → x +ℤ t ≡ (t +ℤ o) +ℤ (x -ℤ o)
exchanged x t o =
    +ℤ_comm x t
    ∙ ap (λ (z : ℤ). t +ℤ z) (sym (+ℤ_idl x) ∙ ap (λ (z : ℤ). z +ℤ x) (sym (+ℤ_invr o)) ∙ +ℤ_assoc o (neg_ℤ o) x ∙ ap (λ (z : ℤ). o +ℤ z) (+ℤ_comm (neg_ℤ o) x))
    ∙ sym (+ℤ_assoc t o (x -ℤ o))

-- the sum of the last 16 after one more reading: plus the new one, minus the oldest
pub slid : (x : ℤ) (xs : List ℤ) → total (take 16 (x ∷ xs)) ≡ total (take 16 xs) +ℤ (x -ℤ get_or xs 15 (pos 0))
unfolding total
slid x xs = exchanged x (total (take 15 xs)) (get_or xs 15 (pos 0)) ∙ ap (λ (z : ℤ). z +ℤ (x -ℤ get_or xs 15 (pos 0))) (sym (one_further 15 xs))

bounded : (n : ℕ) (xs : List ℤ) → All Raw xs → mag (total (take (suc n) xs)) ≤ 32767 + n * 32768
unfolding total
bounded n [] none = omega arith
bounded zero (x ∷ xs) (h also r) = subst (λ (z : ℤ). mag z ≤ 32767 + 0 * 32768) (sym (+ℤ_idr x)) (omega arith)
bounded (suc n) (x ∷ xs) (h also r) =
    sum-mag 32767 (32767 + n * 32768) (32767 + suc n * 32768) x (total (take (suc n) xs)) (omega arith) (omega arith) (bounded n xs r)

-- the sum of 16 readings is within 20 bits signed
pub small : (xs : List ℤ) → All Raw xs → mag (total (take 16 xs)) < 524288
small xs r = let h = bounded 15 xs r in omega arith
