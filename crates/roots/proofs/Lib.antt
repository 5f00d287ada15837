-- Laws for the proofs of this crate.
mod Found
mod Open
