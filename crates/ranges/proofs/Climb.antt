-- A list of coefficients that is right between two ranges stays so with one more entry, above or below; and the two halves together are all. Assumes nothing.
use Rattle.std.proofs.Common.{◌≡◌, ℕ, ◌+◌, ◌<◌, ◌≤◌, List, length, get_or, set, ℤ, sym, refl, ◌∙◌, subst, arith, length-set, get_or-set_other, get_or-set_same, ext_get_or}
use native.Mathlib.Decide.{dec_le}
use lib.Ieee.{Float, nan}
use Rattle.lists.specs.Written.{filled}
use Rattle.lists.proofs.Written.{length-written, written_at, written-past}
use Rattle.ranges.specs.Coefficients.{coefficient_at}
use Rattle.ranges.specs.Inner.{Between}

module _ (t : List ℤ) (k : List Float) (b : ℕ) where
  pub none : (before : List Float) (n : ℕ) → Between t k b n n before before
  none before n = record { long = refl; at = λ i g m. absurd (let p : ⊥ = omega arith in p); kept = λ i g. refl }

  -- the entry that is written
  own : (list : List Float) (v : Float) (n i : ℕ) → n ≡ i → n < length list → v ≡ coefficient_at t k b n → get_or (set list n v) i nan ≡ coefficient_at t k b i
  own list v n i q l e = subst (λ (j : ℕ). get_or (set list n v) j nan ≡ coefficient_at t k b j) q (get_or-set_same list n v nan l ∙ e)

  pub one_up : {before list : List Float} {lo hi : ℕ} (v : Float) → Between t k b lo hi before list → hi < length before → v ≡ coefficient_at t k b hi → Between t k b lo (hi + 1) before (set list hi v)
  one_up {before} {list} {lo} {hi} v r l e = record {
    long = length-set list hi v ∙ r.long;
    at = λ i g m. elim (dec_le hi i) [
      | yes n ↦ own list v hi i (omega arith) (let s = r.long in omega arith) e
      | no n ↦ get_or-set_other list hi i v nan (λ z. omega arith) ∙ r.at i g (omega arith)
    ];
    kept = λ i g. get_or-set_other list hi i v nan (λ z. omega arith) ∙ r.kept i (omega arith);
  }

  pub one_down : {before list : List Float} {lo hi : ℕ} (v : Float) → Between t k b (lo + 1) hi before list → lo < hi → lo < length before → v ≡ coefficient_at t k b lo → Between t k b lo hi before (set list lo v)
  one_down {before} {list} {lo} {hi} v r h l e = record {
    long = length-set list lo v ∙ r.long;
    at = λ i g m. elim (dec_le i lo) [
      | yes n ↦ own list v lo i (omega arith) (let s = r.long in omega arith) e
      | no n ↦ get_or-set_other list lo i v nan (λ z. omega arith) ∙ r.at i (omega arith) m
    ];
    kept = λ i g. get_or-set_other list lo i v nan (λ z. omega arith) ∙ r.kept i g;
  }

-- all entries are right once those from the basic range up are written, and then those below it
module _ (t : List ℤ) (k : List Float) (b n : ℕ) {first second third : List Float} (inside : b < n) (fits : n ≤ length first)
    (up : Between t k b b n first second) (down : Between t k b 0 b second third) where
  entry : (i : ℕ) → i < n → get_or third i nan ≡ coefficient_at t k b i
  entry i h = elim (dec_le b i) [
    | yes g ↦ down.kept i g ∙ up.at i g h
    | no g ↦ down.at i (omega arith) (omega arith)
  ]

  pub together : third ≡ filled (coefficient_at t k b) n first
  together =
      ext_get_or nan third (filled (coefficient_at t k b) n first) (down.long ∙ up.long ∙ sym (length-written _ _ n first)) (λ i h. elim (dec_le n i) [
        | yes g ↦ down.kept i (omega arith) ∙ up.kept i g ∙ sym (written-past _ _ n first i nan g)
        | no g ↦ entry i (omega arith) ∙ sym (written_at _ _ n first i nan fits (omega arith))
      ])
