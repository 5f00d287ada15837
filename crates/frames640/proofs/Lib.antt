-- Chess and Instances are laws for readers; Calls is for the proofs of the code.
mod Calls
pub mod Chess
pub mod Instances
