-- What a filter holds after any events, by induction over them; and so what it returns. Assumes nothing.
use Prim.Native.Nat.{ℕ, zero, suc, ◌+◌, ◌-◌, ◌%◌, ◌<◌, ◌≤◌}
use mathlib.Core.Path.{◌≡◌, refl, sym, ◌∙◌}
use mathlib.Core.Bool.{Bool, true, false}
use mathlib.Core.List.{List, [], ◌∷◌}
use native.Mathlib.Decide.{dec_le}
use native.Mathlib.Omega.{arith}
use lib.Dec.{ltb}
use lib.IntN.{ℤ, pos}
use lib.ListN.{take, get_or, set, length, length-set, replicate}
use lib.Seq.{get_or-set_same, get_or-set_other}
use borrow.Author.Tests.{ltb-true, ltb-false, lt-ltb, le-ltb}
use Rattle.lists.specs.Pick.{pick}
use Rattle.lists.specs.All.{All, ◌also◌}
use Rattle.floats.proofs.Exact.{over-exact}
use Rattle.filter.specs.declared.Filter.{Filter}
use Rattle.filter.specs.Filter.{empty, kept, pushed, average_of}
use Rattle.filter.specs.Latest.{Event, push, reset, after, since, total, Raw, Says}
use Rattle.filter.proofs.Sum.{inside}
use Rattle.filter.proofs.Totals.{slid, small}

-- the filter f holds the readings xs, the latest first
record Holds (xs : List ℤ) (f : Filter) : Type 0 where
  -- its counter: the index of the next reading, and whether there are 16
  below : f.turn < 32
  place : f.turn % 16 ≡ length xs % 16
  filling : length xs < 16 → f.turn ≡ length xs
  full : 16 ≤ length xs → 16 ≤ f.turn
  -- the reading k before the last is k entries back, around the ring
  ring : (k : ℕ) → k < 16 → get_or f.readings ((length xs + (15 - k)) % 16) (pos 0) ≡ get_or xs k (pos 0)
  long : length f.readings ≡ 16
  sum : f.sum ≡ total (take 16 xs)

-- ---- the new filter

zeros : (n k : ℕ) → get_or (replicate n (pos 0)) k (pos 0) ≡ pos 0
zeros zero k = refl
zeros (suc n) zero = refl
zeros (suc n) (suc k) = zeros n k

none_in : Holds [] empty
unfolding total
none_in = record {
  below = omega arith;
  place = refl;
  filling = λ h. refl;
  full = λ h. absurd (let z : ⊥ = omega arith in z);
  ring = λ k h. zeros 16 ((0 + (15 - k)) % 16);
  long = refl;
  sum = refl;
}

-- ---- one more reading

turn-place : (t n : ℕ) (b : Bool) → ltb t 31 ≡ b → t < 32 → t % 16 ≡ n % 16 → pick b (t + 1) 16 % 16 ≡ suc n % 16
turn-place t n true e l h = omega arith
turn-place t n false e l h = let g = ltb-false t 31 e in omega arith

turn_below : (t : ℕ) (b : Bool) → ltb t 31 ≡ b → pick b (t + 1) 16 < 32
turn_below t true e = let g = ltb-true t 31 e in omega arith
turn_below t false e = omega arith

turn-filling : (t n : ℕ) (b : Bool) → ltb t 31 ≡ b → suc n < 16 → t ≡ n → pick b (t + 1) 16 ≡ suc n
turn-filling t n true e l h = omega arith
turn-filling t n false e l h = let g = ltb-false t 31 e in omega arith

turn-full : (t n : ℕ) (b : Bool) → ltb t 31 ≡ b → 16 ≤ suc n → (n < 16 → t ≡ n) → (16 ≤ n → 16 ≤ t) → 16 ≤ pick b (t + 1) 16
turn-full t n false e l f g = omega arith
turn-full t n true e l f g = elim (dec_le 16 n) [
  | no h ↦ let q = f (omega arith) in omega arith
  | yes h ↦ let q = g h in omega arith
]

-- the reading k before the last, after x was written at index p
ring-on : (r : List ℤ) (p n : ℕ) (x : ℤ) (xs : List ℤ) → length r ≡ 16 → p ≡ n % 16
    → ((k : ℕ) → k < 16 → get_or r ((n + (15 - k)) % 16) (pos 0) ≡ get_or xs k (pos 0))
    → (k : ℕ) → k < 16 → get_or (set r p x) ((suc n + (15 - k)) % 16) (pos 0) ≡ get_or (x ∷ xs) k (pos 0)
ring-on r p n x xs l e h zero b =
    let i : (suc n + (15 - 0)) % 16 ≡ p = omega arith in
    rw i (get_or-set_same r p x (pos 0) (omega arith))
ring-on r p n x xs l e h (suc k) b =
    let i : (suc n + (15 - suc k)) % 16 ≡ (n + (15 - k)) % 16 = omega arith in
    rw i (get_or-set_other r p ((n + (15 - k)) % 16) x (pos 0) (λ q. omega arith) ∙ h k (omega arith))

one_more : {xs : List ℤ} {f : Filter} (x : ℤ) → All Raw xs → Holds xs f → Holds (x ∷ xs) (pushed f x)
unfolding pushed
one_more {xs} {f} x raw h =
    let t = f.turn in
    let oldest : get_or f.readings (t % 16) (pos 0) ≡ get_or xs 15 (pos 0) =
    let i : t % 16 ≡ (length xs + (15 - 15)) % 16 = let p = h.place in omega arith in
    rw i (h.ring 15 (omega arith)) in
    let held : kept f.sum ≡ total (take 16 xs) =
    rw h.sum (sym (inside (total (take 16 xs)) (small xs raw))) in
    record {
      below = turn_below t (ltb t 31) refl;
      place = turn-place t (length xs) (ltb t 31) refl h.below h.place;
      filling = λ l. turn-filling t (length xs) (ltb t 31) refl l (h.filling (omega arith));
      full = λ l. turn-full t (length xs) (ltb t 31) refl l h.filling h.full;
      ring = ring-on f.readings (t % 16) (length xs) x xs h.long h.place h.ring;
      long = length-set f.readings (t % 16) x ∙ h.long;
      sum = rw (held, oldest) (sym (slid x xs));
    }

-- ---- any events

holds : (events : List Event) → All Raw (since events) → Holds (since events) (after events)
unfolding after since
holds [] r = none_in
holds (push x ∷ before) (h also r) = one_more x r (holds before r)
holds (reset ∷ before) r = none_in

pub says : (events : List Event) → All Raw (since events) → Says events
unfolding average_of
says events r =
    let h = holds events r in
    let s = small (since events) r in
    record {
      early = λ l. let e = h.filling l in rw (lt-ltb (after events).turn 16 (omega arith)) refl;
      ready = λ l. rw (le-ltb (after events).turn 16 (h.full l), h.sum, sym (inside (total (take 16 (since events))) s)) refl;
      exact = over-exact (total (take 16 (since events))) 4 (omega arith) (omega arith);
    }
