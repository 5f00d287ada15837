-- The laws that callers cite are in Parts, Single and Numbers. Opened has lemmas for the proofs of the code, Growth those for Numbers.
mod Opened
mod Growth
pub mod Parts
pub mod Single
pub mod Numbers
