-- The readings marked P.
pub mod Readings
