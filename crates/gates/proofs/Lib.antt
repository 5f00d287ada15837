-- Turns is for proofs of gates, those of callers too.
pub mod Turns
