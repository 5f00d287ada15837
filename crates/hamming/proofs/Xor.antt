-- Laws of XOR: on single bits, its own inverse, associative, and under a mask. Assumes nothing.
use mathlib.Core.Path.{◌≡◌, refl, sym, ap, ap₂, ◌∙◌}
use Prim.Native.Nat.{ℕ, zero, suc, ◌+◌, ◌*◌, ◌/◌, ◌%◌, ◌<◌}
use native.Mathlib.Nat.{mod-lt, zero-lt-suc, le_of_suc-le-suc, not-suc-le-zero, div-add-mod'}
use lib.Bits.{bit_and, bit_xor, and_zero_r, xor_comm, and_mod, and_shr, xor_mod, xor_shr, xor_self}
use lib.Arith.{bin_ind}

-- a claim about a bit, by its two cases
pub bit : (P : ℕ → Type 0) → P 0 → P 1 → (x : ℕ) → x < 2 → P x
bit P p q zero h = p
bit P p q (suc zero) h = q
bit P p q (suc (suc x)) h = absurd (not-suc-le-zero (le_of_suc-le-suc (le_of_suc-le-suc h)))

pub xor-bit : (x y : ℕ) → x < 2 → y < 2 → (x + y) % 2 ≡ bit_xor x y
xor-bit x y hx hy =
    bit (λ (x : ℕ). (x + y) % 2 ≡ bit_xor x y)
    (bit (λ (y : ℕ). (0 + y) % 2 ≡ bit_xor 0 y) refl refl y hy)
    (bit (λ (y : ℕ). (1 + y) % 2 ≡ bit_xor 1 y) refl refl y hy) x hx

differ-twice : (x y : ℕ) → x < 2 → y < 2 → bit_xor (bit_xor x y) y ≡ x
differ-twice x y hx hy =
    bit (λ (x : ℕ). bit_xor (bit_xor x y) y ≡ x)
    (bit (λ (y : ℕ). bit_xor (bit_xor 0 y) y ≡ 0) refl refl y hy)
    (bit (λ (y : ℕ). bit_xor (bit_xor 1 y) y ≡ 1) refl refl y hy) x hx

pub xor-twice : (a b : ℕ) → bit_xor (bit_xor a b) b ≡ a
xor-twice a =
    bin_ind (λ (n : ℕ). (b : ℕ) → bit_xor (bit_xor n b) b ≡ n) (λ b. xor_self b)
    (λ n ih b. sym (div-add-mod' (bit_xor (bit_xor n b) b) 2)
    ∙ ap₂ (λ (x y : ℕ). x * 2 + y)
    (xor_shr (bit_xor n b) b 1 ∙ ap (λ (x : ℕ). bit_xor x (b / 2)) (xor_shr n b 1) ∙ ih (b / 2))
    (xor_mod (bit_xor n b) b 1 ∙ ap (λ (x : ℕ). bit_xor x (b % 2)) (xor_mod n b 1)
    ∙ differ-twice (n % 2) (b % 2) (mod-lt n (zero-lt-suc 1)) (mod-lt b (zero-lt-suc 1)))
    ∙ div-add-mod' n 2) a

-- two numbers whose XOR is 0 are equal
pub xor_same : (a b : ℕ) → bit_xor a b ≡ 0 → a ≡ b
xor_same a b e = sym (xor-twice a b) ∙ ap (λ (x : ℕ). bit_xor x b) e

assoc-bits : (x y z : ℕ) → x < 2 → y < 2 → z < 2 → bit_xor (bit_xor x y) z ≡ bit_xor x (bit_xor y z)
assoc-bits x y z hx hy hz =
    bit (λ (x : ℕ). bit_xor (bit_xor x y) z ≡ bit_xor x (bit_xor y z)) refl
    (bit (λ (y : ℕ). bit_xor (bit_xor 1 y) z ≡ bit_xor 1 (bit_xor y z)) refl
    (bit (λ (z : ℕ). bit_xor (bit_xor 1 1) z ≡ bit_xor 1 (bit_xor 1 z)) refl refl z hz) y hy) x hx

pub xor_assoc : (a b c : ℕ) → bit_xor (bit_xor a b) c ≡ bit_xor a (bit_xor b c)
xor_assoc a =
    bin_ind (λ (n : ℕ). (b c : ℕ) → bit_xor (bit_xor n b) c ≡ bit_xor n (bit_xor b c)) (λ b c. refl)
    (λ n ih b c. sym (div-add-mod' (bit_xor (bit_xor n b) c) 2)
    ∙ ap₂ (λ (x y : ℕ). x * 2 + y)
    (xor_shr (bit_xor n b) c 1 ∙ ap (λ (x : ℕ). bit_xor x (c / 2)) (xor_shr n b 1) ∙ ih (b / 2) (c / 2)
    ∙ sym (xor_shr n (bit_xor b c) 1 ∙ ap (λ (x : ℕ). bit_xor (n / 2) x) (xor_shr b c 1)))
    (xor_mod (bit_xor n b) c 1 ∙ ap (λ (x : ℕ). bit_xor x (c % 2)) (xor_mod n b 1)
    ∙ assoc-bits (n % 2) (b % 2) (c % 2) (mod-lt n (zero-lt-suc 1)) (mod-lt b (zero-lt-suc 1)) (mod-lt c (zero-lt-suc 1))
    ∙ sym (xor_mod n (bit_xor b c) 1 ∙ ap (λ (x : ℕ). bit_xor (n % 2) x) (xor_mod b c 1)))
    ∙ div-add-mod' (bit_xor n (bit_xor b c)) 2) a

pub xor-swap : (a b c d : ℕ) → bit_xor (bit_xor a b) (bit_xor c d) ≡ bit_xor (bit_xor a c) (bit_xor b d)
xor-swap a b c d =
    xor_assoc a b (bit_xor c d) ∙ ap (bit_xor a) (sym (xor_assoc b c d) ∙ ap (λ (x : ℕ). bit_xor x d) (xor_comm b c) ∙ xor_assoc c b d)
    ∙ sym (xor_assoc a c (bit_xor b d))

and-bits : (x y z : ℕ) → x < 2 → y < 2 → z < 2 → bit_and (bit_xor x y) z ≡ bit_xor (bit_and x z) (bit_and y z)
and-bits x y z hx hy hz =
    bit (λ (x : ℕ). bit_and (bit_xor x y) z ≡ bit_xor (bit_and x z) (bit_and y z))
    (bit (λ (y : ℕ). bit_and (bit_xor 0 y) z ≡ bit_xor (bit_and 0 z) (bit_and y z)) refl refl y hy)
    (bit (λ (y : ℕ). bit_and (bit_xor 1 y) z ≡ bit_xor (bit_and 1 z) (bit_and y z))
    (bit (λ (z : ℕ). bit_and (bit_xor 1 0) z ≡ bit_xor (bit_and 1 z) (bit_and 0 z)) refl refl z hz)
    (bit (λ (z : ℕ). bit_and (bit_xor 1 1) z ≡ bit_xor (bit_and 1 z) (bit_and 1 z)) refl refl z hz) y hy) x hx

pub and_xor : (m a b : ℕ) → bit_and (bit_xor a b) m ≡ bit_xor (bit_and a m) (bit_and b m)
and_xor m =
    bin_ind (λ (n : ℕ). (a b : ℕ) → bit_and (bit_xor a b) n ≡ bit_xor (bit_and a n) (bit_and b n))
    (λ a b. and_zero_r (bit_xor a b) ∙ sym (ap₂ bit_xor (and_zero_r a) (and_zero_r b)))
    (λ n ih a b. sym (div-add-mod' (bit_and (bit_xor a b) n) 2)
    ∙ ap₂ (λ (x y : ℕ). x * 2 + y)
    (and_shr (bit_xor a b) n 1 ∙ ap (λ (x : ℕ). bit_and x (n / 2)) (xor_shr a b 1) ∙ ih (a / 2) (b / 2)
    ∙ sym (xor_shr (bit_and a n) (bit_and b n) 1 ∙ ap₂ bit_xor (and_shr a n 1) (and_shr b n 1)))
    (and_mod (bit_xor a b) n 1 ∙ ap (λ (x : ℕ). bit_and x (n % 2)) (xor_mod a b 1)
    ∙ and-bits (a % 2) (b % 2) (n % 2) (mod-lt a (zero-lt-suc 1)) (mod-lt b (zero-lt-suc 1)) (mod-lt n (zero-lt-suc 1))
    ∙ sym (xor_mod (bit_and a n) (bit_and b n) 1 ∙ ap₂ bit_xor (and_mod a n 1) (and_mod b n 1)))
    ∙ div-add-mod' (bit_xor (bit_and a n) (bit_and b n)) 2) m
