-- The result of a load as C has it.
pub mod Border
