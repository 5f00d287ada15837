-- Document 02, CR 12: one pass and two calls give the same picture. Stated by what the three calls promise, and nothing else. Assumes nothing.
use Rattle.std.specs.Prelude.{ℕ, ◌≡◌, List, [], ◌∷◌, eqb, leb, get_or, ⊤, Result, Ok, Err, Float}
use Rattle.std.specs.Float.{binary32}
use Rattle.std.specs.Float.Ieee.{of_bits}
use Rattle.lists.specs.Pick.{pick}
use Rattle.lists.specs.First.{first_from}
use Rattle.refusal.specs.declared.Refusal.{Refusal}
use Rattle.refusal.specs.Refusal.{told_of}
use Rattle.pixels.specs.Pixels.{infrared_bits, into}
use Rattle.frames.specs.declared.Frame.{Frame}
use Rattle.frames.specs.Frames.{ToCall, PassCall, frame_of, onward_at, infrared_at, ir_verdict, to_verdict, pass_verdict, Infrareds, Temperatures, Passes}

-- ---- the earlier of two refusals

-- the order of tests in a frame call, by their numbers
abbrev pub order : List ℕ
order = 2 ∷ 10 ∷ 6 ∷ 7 ∷ 8 ∷ []

-- the position of a refusal in that order
abbrev pub standing : Refusal → ℕ
standing refusal = first_from (λ (k : ℕ). eqb (get_or order k 0) (told_of refusal).number) 0 5

-- the verdict that is earlier in the order; the first one if both have the same position
abbrev pub earlier : Result ⊤ Refusal → Result ⊤ Refusal → Result ⊤ Refusal
earlier (Ok _) other = other
earlier (Err x) (Ok _) = Err x
earlier (Err x) (Err y) = pick (leb (standing x) (standing y)) (Err x) (Err y)

-- ---- the two calls

-- the second of the two calls: with the pass's own tables, mask and settings, and the ambient temperature t_a
abbrev pub second : PassCall → Float → ToCall
second f t_a = onward_at f t_a

-- for a pass f and a destination d: the infrared call leaves d₁ and returns r, the temperature call leaves d₂ and returns q, one pass leaves d' and returns p
pub record OneOrTwo (f : PassCall) (d : List ℕ) : Type 0 where
  -- if neither of the two calls refuses, and the second takes the ambient temperature that the first returned: one pass returns the same (ambient temperature
  -- and count of lost pixels) and leaves the same destination
  pub same : {d₁ d₂ d' : List ℕ} {r q p : Result Frame Refusal} {t_a lost t n : ℕ} → Infrareds f.ir d d₁ r → r ≡ Ok (frame_of t_a lost)
      → Temperatures (second f (of_bits binary32 t_a)) d₁ d₂ q → q ≡ Ok (frame_of t n) → Passes f d d' p → (p ≡ q) × (d' ≡ d₂)
  -- one pass refuses exactly if at least one of the two would, with the earlier refusal in the order; with the infrared call's if both have the same position
  pub refused : (t_a : Float) → pass_verdict f d ≡ earlier (ir_verdict f.ir d) (to_verdict (second f t_a) d)
  -- the second call's verdict depends neither on the ambient temperature nor on what the first call wrote
  pub onward : (t_a x : Float) {d₁ : List ℕ} {r : Result Frame Refusal} → Infrareds f.ir d d₁ r → to_verdict (second f t_a) d₁ ≡ to_verdict (second f x) d
  -- if the first call passes, it has written the infrared values, even if the second then refuses
  pub half_done : {d₁ : List ℕ} {r : Result Frame Refusal} → ir_verdict f.ir d ≡ Ok tt → Infrareds f.ir d d₁ r → d₁ ≡ into f.ir.size f.ir.mask (infrared_bits (infrared_at f.ir)) d
  -- if the second refuses, one pass has written nothing
  pub nothing : {x : Refusal} {d' : List ℕ} {p : Result Frame Refusal} (t_a : Float) → to_verdict (second f t_a) d ≡ Err x → Passes f d d' p → d' ≡ d
