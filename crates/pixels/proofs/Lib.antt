-- Callers cite the laws of Lost, Stages and Blocks; the others serve the proofs of this crate.
mod Steps
mod Halves
pub mod Blocks
mod Temperatures
pub mod Lost
pub mod Stages
