-- Invariant of a loop over the first entries of a list, for any type of entry. Assumes nothing.
use Prim.Native.Nat.{ℕ, ◌+◌, ◌≤◌, ◌<◌}
use mathlib.Core.Path.{◌≡◌, refl, ◌∙◌, subst}
use mathlib.Core.List.{List}
use native.Mathlib.Decide.{dec_le}
use native.Mathlib.Omega.{arith}
use lib.ListN.{length, get_or, set, length-set}
use lib.Seq.{get_or-set_same, get_or-set_other}
use Rattle.lists.specs.Each.{Each}

module _ {A : Type 0} {P : ℕ → A → Type 0} {z : A} where
  pub none : (d : List A) → Each P z d 0
  none d = record { at = λ k h. absurd (let p : ⊥ = omega arith in p) }

  -- one step further if entry i already has the property and is left as it is
  pub one_kept : {d : List A} {i : ℕ} → Each P z d i → P i (get_or d i z) → Each P z d (i + 1)
  one_kept {d} {i} r p = record {
    at = λ k h. elim (dec_le i k) [
      | yes g ↦ let e : i ≡ k = omega arith in subst (λ (j : ℕ). P j (get_or d j z)) e p
      | no g ↦ r.at k (omega arith)
    ];
  }

  -- one step further if entry i is set to v, which has the property
  pub one_more : {d : List A} {i : ℕ} {v : A} → Each P z d i → i < length d → P i v → Each P z (set d i v) (i + 1)
  one_more {d} {i} {v} r l p =
      let before : Each P z (set d i v) i = record { at = λ k h. rw (get_or-set_other d i k v z (λ e. omega arith)) (r.at k h) } in
      one_kept before (rw (get_or-set_same d i v z l) p)

-- the invariant of a loop that sets the first n entries one by one, at index i: entries before i are done, and the length is unchanged
pub record Entering {A : Type 0} (P : ℕ → A → Type 0) (z : A) (n : ℕ) (d₀ d : List A) (i : ℕ) : Type 0 where
  pub within : i ≤ n
  pub long : length d ≡ length d₀
  pub each : Each P z d i

module _ {A : Type 0} {P : ℕ → A → Type 0} {z : A} {n : ℕ} where
  pub begun : (d : List A) → Entering P z n d d 0
  begun d = record { within = omega arith; long = refl; each = none d }

  pub entered : {d₀ d : List A} {i : ℕ} {v : A} → Entering P z n d₀ d i → i < n → n ≤ length d₀ → P i v → Entering P z n d₀ (set d i v) (i + 1)
  entered {d = d} {i = i} {v = v} r h l p = record {
    within = omega arith;
    long = length-set d i v ∙ r.long;
    each = one_more r.each (let e = r.long in omega arith) p;
  }

  pub all-entered : {d₀ d : List A} {i : ℕ} → Entering P z n d₀ d i → n ≤ i → Each P z d n
  all-entered {d = d} {i = i} r h = let w = r.within in let e : i ≡ n = omega arith in subst (λ (k : ℕ). Each P z d k) e r.each
