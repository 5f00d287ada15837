-- Single, Demand, Losses, OneOrTwo, NoAverage, AsPlain and Calls are the laws that callers cite; the others are for the proofs of the code.
mod Opened
mod Both
mod ByWanted
pub mod Calls
pub mod Single
pub mod Demand
pub mod Losses
pub mod OneOrTwo
pub mod NoAverage
pub mod AsPlain
