-- The record and the subpage as C has them.
pub mod Record
