-- The results of the burning calls as C has them.
pub mod Burning
