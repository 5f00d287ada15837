-- The laws that callers cite are in Answers, Exactly, Laws, Flips and Counts; the other files have lemmas for them.
mod Xor
mod Linear
mod Codes
mod Folds
mod Bytes
mod Put
mod Table
pub mod Answers
pub mod Exactly
pub mod Laws
pub mod Flips
pub mod Counts
