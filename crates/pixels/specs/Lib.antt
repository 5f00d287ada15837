-- The pixels of a frame. Inner and Blocks are for inner functions only.
pub mod Pixels
pub mod Inner
pub mod Blocks
