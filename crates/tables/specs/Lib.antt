-- Sensitivities and coefficients. Inner is for inner functions only.
pub mod Tables
pub mod Inner
