-- Writing a card from its two lists, and the definitions for the round-trip theorems. Inner is for inner functions only.
pub mod Write
pub mod Round
pub mod Inner
