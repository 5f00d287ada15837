-- The digits of both square roots of a normal number give the bits of its fourth root. Assumes nothing.
use Rattle.std.proofs.Common.{◌≡◌, ℕ, ◌+◌, ◌*◌, ◌/◌, ◌%◌, ◌<◌, ◌≤◌, arith}
use Rattle.root.specs.Whole.{Rounds, Twice, Lifted}
use Rattle.root.proofs.Squares.{rounded}
use Rattle.root.proofs.Magnitude.{lifted-normal}
use Rattle.root.proofs.Digits.{fourth}
use Rattle.roots.specs.Many.{Found}

-- b is the number's bits, w its digits and its exponent, q and p the digits of both roots
module _ (b w q p : ℕ) (lo : 0x800000 ≤ b) (hi : b < 0x7F800000) (e : w ≡ b + 0x3E800000) (from : 0x800000 ≤ q) (under : q < 0x1000000) where
  pub found : Rounds ((w % 0x800000 + 0x800000) * (0x800000 + 0x800000 * (w / 0x800000 % 2))) q
      → Rounds (q * (0x800000 + 0x800000 * (w / 0x800000 / 2 % 2))) p → Found b (0x800000 * (w / 0x800000 / 4 + 63) + p)
  found f s =
      let k : ℕ = w / 0x800000 in
      let even : k / 2 % 2 ≡ (k / 2 + 126) % 2 = omega arith in
      let two : Twice w (0x800000 * (k / 4 + 63) + p) = record {
        q = q;
        p = p;
        first = rounded (w % 0x800000 + 0x800000) k q (omega arith) (omega arith) f;
        second = rounded q (k / 2 + 126) p from under (rw even at s);
        sum = omega arith;
      } in
      let l : Lifted b w = rw e (lifted-normal b lo hi) in
      let r = fourth b w (0x800000 * (k / 4 + 63) + p) l two in
      record { finite = r.1; right = λ _. (omega arith, hi, r.0) }
