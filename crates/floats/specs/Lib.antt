-- The binary32 numbers (f32), as the formulas use them.
pub mod Floats
pub mod Constants
pub mod Exact
