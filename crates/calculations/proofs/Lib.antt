-- Calls is for the proofs of the code.
mod Calls
