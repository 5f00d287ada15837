-- Mending a card in place, and what is proved of it. Inner is for inner functions only.
pub mod Scrub
pub mod Laws
pub mod Inner
