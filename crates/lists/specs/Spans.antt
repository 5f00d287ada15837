-- A map from numbers to elements by spans: each span starts where the one before it ends. For any type of element. Assumes nothing.
use Rattle.std.specs.Prelude.{ℕ, Bool, List, [], ◌∷◌, ltb}
use Rattle.lists.specs.Pick.{pick}

-- a span: the numbers from the end of the span before it up to, not including, its own end map to this element
pub data Span (A : Type 0) : Type 0 where
  upto : ℕ → A → Span A

-- the element of w: that of the first span whose end is above w, or z if there is none
abbrev pub lookup : {A : Type 0} → A → List (Span A) → ℕ → A
lookup z [] w = z
lookup z (upto n a ∷ rest) w = pick (ltb w n) a (lookup z rest w)

-- the start of the first span whose element is `wanted`, in spans that start at `from`; the end of the last span if there is none
abbrev pub start_in : {A : Type 0} → (A → Bool) → List (Span A) → ℕ → ℕ
start_in wanted [] from = from
start_in wanted (upto n a ∷ rest) from = pick (wanted a) from (start_in wanted rest n)
