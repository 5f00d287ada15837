-- Ends proves specs/Laws, by Means, Calls and Whole. The other files have lemmas for these and for the proofs of the code.
mod Fold
mod Loading
mod Local
mod Taking
mod Says
pub mod Means
pub mod Calls
pub mod Whole
pub mod Ends
pub mod Single
