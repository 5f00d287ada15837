-- Pixel offsets. Inner is for inner functions only.
pub mod Offsets
pub mod Inner
