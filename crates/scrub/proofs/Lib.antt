-- Step and Noted have lemmas for the proofs of the code; the other files have the laws that callers cite.
mod Step
mod Noted
pub mod Mended
pub mod Opened
pub mod Single
pub mod Exactly
pub mod Listed
pub mod After
pub mod Again
pub mod Loading
pub mod Writing
