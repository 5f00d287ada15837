-- The proof of every reading in the list.
pub mod Claim
