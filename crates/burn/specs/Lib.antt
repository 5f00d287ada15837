-- Burning a card, step by step. Inner is for inner functions and laws only.
pub mod Burn
pub mod Plan
pub mod Runs
pub mod Inner
