-- Codes and Bytes have laws on words, Round and Loads the round trips, Single that the contract determines the result. From and Opened have lemmas for
-- the proofs of the code.
mod From
mod Opened
pub mod Codes
pub mod Bytes
pub mod Round
pub mod Loads
pub mod Single
