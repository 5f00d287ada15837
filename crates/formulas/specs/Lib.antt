-- Document 01, "The formulas, in this order of operations". Inner is for inner functions only.
pub mod Frame
pub mod Pixel
pub mod Inner
