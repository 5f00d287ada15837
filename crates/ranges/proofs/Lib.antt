-- Steps (the coefficients step by step) and Zero (no coefficient is divided by a zero) are laws that callers cite. Climb is for the proofs of the code.
pub mod Steps
pub mod Zero
mod Climb
