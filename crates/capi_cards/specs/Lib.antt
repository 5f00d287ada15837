-- The results of the card calls as C has them.
pub mod Border
