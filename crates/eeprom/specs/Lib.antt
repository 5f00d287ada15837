-- Loading a card, what a load never produces, and the functions that return parts. Inner is for inner functions only.
pub mod Load
pub mod Parts
pub mod Numbers
pub mod Inner
