-- A search's answer as an Option: what a search that found or did not find has returned, and what the answer says of the number. Assumes nothing.
use Rattle.std.proofs.Common.{◌≡◌, ℕ, ◌<◌, ◌≤◌, Bool, true, false, Option, Some, None, refl, sym, ap, ◌∙◌, arith, ltb, le-ltb, lt-ltb, ltb-true, ltb-false}
use Rattle.std.proofs.lemmas.Option.{none-some}
use Rattle.std.specs.Prelude.{MatchOption, if◌then◌else◌}
use Rattle.lists.specs.First.{first_from}
use Rattle.lists.proofs.First.{first-is}
use Rattle.util.specs.Found.{found_below}

pub below-some : (limit n : ℕ) → n < limit → found_below limit n ≡ Some n
below-some limit n h = rw (lt-ltb n limit h) refl

pub below-none : (limit n : ℕ) → limit ≤ n → found_below limit n ≡ None
below-none limit n h = rw (le-ltb n limit h) refl

-- the first number below the limit that passes a test, as a search of a range finds it
module _ (p : ℕ → Bool) (limit : ℕ) where
  pub found-at : (w : ℕ) → w < limit → p w ≡ true → ((k : ℕ) → k < w → p k ≡ false) → Some w ≡ found_below limit (first_from p 0 limit)
  found-at w h e f =
      let g : w ≡ first_from p 0 limit = first-is p 0 limit w (record { from = omega arith; within = omega arith; before = λ k _ l. f k l; at = λ _. e }) in
      sym (below-some limit w h) ∙ ap (found_below limit) g

  pub found-none : ((k : ℕ) → k < limit → p k ≡ false) → None ≡ found_below limit (first_from p 0 limit)
  found-none f =
      let g : limit ≡ first_from p 0 limit = first-is p 0 limit limit (record { from = omega arith; within = omega arith; before = λ k _ l. f k l; at = λ l. absurd (let x : ⊥ = omega arith in x) }) in
      sym (below-none limit limit (omega arith)) ∙ ap (found_below limit) g

  pub found-by-find : (r : Option ℕ) → MatchOption r ((k : ℕ) → 0 ≤ k → k < limit → p k ≡ false) (λ w. (0 ≤ w) × (w < limit) × (p w ≡ true) × ((k : ℕ) → 0 ≤ k → k < w → p k ≡ false))
      → r ≡ found_below limit (first_from p 0 limit)
  found-by-find None h = found-none (λ k l. h k (omega arith) l)
  found-by-find (Some w) h = found-at w h.1 h.2 (λ k l. h.3 k (omega arith) l)

-- what an answer says of the number
module _ (limit n : ℕ) where
  is-some : (t : Bool) (w : ℕ) → ltb n limit ≡ t → (if t then Some n else None) ≡ Some w → (n ≡ w) × (n < limit)
  is-some true w e f = (cc f, ltb-true n limit e)
  is-some false w e f = absurd (none-some w f)

  is-none : (t : Bool) → ltb n limit ≡ t → ◌≡◌ {A = Option ℕ} (if t then Some n else None) None → limit ≤ n
  is-none true e f = absurd (none-some n (sym f))
  is-none false e f = ltb-false n limit e

  pub some-below : {w : ℕ} → found_below limit n ≡ Some w → (n ≡ w) × (n < limit)
  some-below {w} e = is-some (ltb n limit) w refl e

  pub none-below : found_below limit n ≡ None → limit ≤ n
  none-below e = is-none (ltb n limit) refl e
