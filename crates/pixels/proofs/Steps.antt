-- A loop over the pixels of a block: what holds at each turn, and the step by one pixel, which is left or written, and counted if it is the NaN pattern.
-- Assumes nothing.
use Prim.Native.Nat.{ℕ, ◌+◌, ◌≤◌, ◌<◌}
use mathlib.Core.Path.{◌≡◌, refl, ap, ap₂, sym, ◌∙◌}
use mathlib.Core.Bool.{Bool, true, false, ◌&&◌}
use mathlib.Core.List.{List}
use native.Mathlib.Nat.{add-zero, add_assoc}
use native.Mathlib.Numerals.{add-one}
use native.Mathlib.Omega.{arith}
use lib.Dec.{eqb}
use lib.ListN.{get_or, set, length-set}
use lib.Seq.{set-get_or}
use Rattle.lists.specs.Pick.{pick}
use Rattle.lists.specs.Count.{count_below}
use Rattle.lists.proofs.Written.{skipped, stored}
use Rattle.floats.specs.Constants.{pattern}
use Rattle.pixels.specs.Pixels.{touched, into, lost_of}
use Rattle.pixels.specs.Blocks.{Agree, lost_flag, Block}

-- a pixel adds 1 to the count if it is lost
count-one : (mask : List ℕ) (bits : ℕ → ℕ) (k : ℕ) (b : Bool) → (touched mask k && eqb (bits k) pattern) ≡ b → lost_of (k + 1) mask bits ≡ lost_of k mask bits + pick b 1 0
unfolding count_below
count-one mask bits k b e = rw (add-one k, e)

module _ (mask : List ℕ) (val : ℕ → ℕ) {base : ℕ} where
  pub start : (d : List ℕ) → Block mask val base 0 d d 0
  start d = record {
    long = refl;
    few = omega arith;
    onto = λ bits d₀ a e. e ∙ ap (λ (n : ℕ). into n mask bits d₀) (sym (add-zero base));
    more = λ bits a. ap (λ (n : ℕ). lost_of n mask bits) (add-zero base) ∙ sym (add-zero (lost_of base mask bits));
  }

  module _ {i : ℕ} {d d₁ : List ℕ} {lost : ℕ} (r : Block mask val base i d d₁ lost) where
    fewer : (bits : ℕ → ℕ) → Agree mask val base (i + 1) bits → Agree mask val base i bits
    fewer bits a j h = a j (omega arith)

    next : (bits : ℕ → ℕ) (d₀ : List ℕ) → into (base + i + 1) mask bits d₀ ≡ into (base + (i + 1)) mask bits d₀
    next bits d₀ = ap (λ (n : ℕ). into n mask bits d₀) (add_assoc base i 1)

    counted : (bits : ℕ → ℕ) (b : Bool) → Agree mask val base (i + 1) bits → (touched mask (base + i) && eqb (bits (base + i)) pattern) ≡ b
        → lost_of (base + (i + 1)) mask bits ≡ lost_of base mask bits + (lost + pick b 1 0)
    counted bits b a e =
        ap (λ (n : ℕ). lost_of n mask bits) (sym (add_assoc base i 1)) ∙ count-one mask bits (base + i) b e
        ∙ ap (λ (n : ℕ). n + pick b 1 0) (r.more bits (fewer bits a)) ∙ add_assoc (lost_of base mask bits) lost (pick b 1 0)

    pub kept : touched mask (base + i) ≡ false → Block mask val base (i + 1) d d₁ lost
    kept w = record {
      long = r.long;
      few = let f = r.few in omega arith;
      onto = λ bits d₀ a e. r.onto bits d₀ (fewer bits a) e ∙ sym (skipped (touched mask) bits (base + i) d₀ w) ∙ next bits d₀;
      more = λ bits a. counted bits false a (ap (λ (b : Bool). b && eqb (bits (base + i)) pattern) w) ∙ ap (λ (n : ℕ). lost_of base mask bits + n) (add-zero lost);
    }

    put : {v : ℕ} (b : Bool) → touched mask (base + i) ≡ true → eqb (val i) pattern ≡ b → v ≡ val i → Block mask val base (i + 1) d (set d₁ (base + i) v) (lost + pick b 1 0)
    put {v} b w l q = record {
      long = length-set d₁ (base + i) v ∙ r.long;
      few = let f = r.few in let o = one b in omega arith;
      onto = λ bits d₀ a e.
          ap₂ (λ (m : List ℕ) (x : ℕ). set m (base + i) x) (r.onto bits d₀ (fewer bits a) e) (q ∙ sym (a i (omega arith) w))
          ∙ sym (stored (touched mask) bits (base + i) d₀ w) ∙ next bits d₀;
      more = λ bits a. counted bits b a (rw (w, a i (omega arith) w) l);
    }
      where
        one : (c : Bool) → pick c 1 0 < 2
        one true = omega arith
        one false = omega arith

    -- the entry becomes v: the new value if the mask asks for it, else the old one; w is what the pixel adds to the count
    pub stepped : (t : Bool) {v w : ℕ} → touched mask (base + i) ≡ t → v ≡ pick t (val i) (get_or d₁ (base + i) 0) → w ≡ pick t (lost_flag (val i)) 0
        → Block mask val base (i + 1) d (set d₁ (base + i) v) (lost + w)
    stepped true a p q = rw q (put (eqb (val i) pattern) a refl p)
    stepped false a p q = rw (q, add-zero lost, p, set-get_or d₁ (base + i) 0) (kept a)

-- a pixel adds at most 1 to the count
pub at_most_one : (t : Bool) (n : ℕ) → pick t (lost_flag n) 0 ≤ 1
at_most_one true n = one (eqb n pattern)
  where
    one : (b : Bool) → pick b 1 0 ≤ 1
    one true = omega arith
    one false = omega arith
at_most_one false n = omega arith
