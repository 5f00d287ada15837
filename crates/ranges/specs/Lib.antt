-- The temperature ranges of a camera, and their coefficients. Inner is for inner functions and preconditions.
pub mod Corners
pub mod Coefficients
pub mod Inner
