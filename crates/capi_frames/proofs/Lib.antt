-- Single is the law that callers cite; Handed is for the proofs of the code.
pub mod Single
pub mod Handed
