-- A card as two lists: the index of each word in its list, and reading them. Inner is for inner functions only.
pub mod Index
pub mod Read
pub mod Inner
