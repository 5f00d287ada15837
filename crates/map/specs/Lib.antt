-- The map of a card.
pub mod Map
