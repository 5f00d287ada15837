-- The chip word as document 01 defines it, and the results of the calls. Inner is for inner functions only.
pub mod Word
pub mod Answer
pub mod Inner
