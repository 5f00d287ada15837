-- The words of a card. Inner is for inner functions only.
pub mod Card
pub mod Inner
