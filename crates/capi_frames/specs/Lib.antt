-- The arguments from C and the results to C.
pub mod Border
