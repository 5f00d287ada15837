-- What is special to the MLX90640's card, in the crate's order: words, corrections, patterns by pixel; and two claims: the corrections are exact, and the
-- six-entry pattern agrees with the datasheet's formula.
pub mod Words
pub mod Corrections
pub mod Exact
pub mod Pixels
pub mod Formula
