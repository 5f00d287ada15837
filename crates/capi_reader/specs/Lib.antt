-- The arguments and results at the C border, and the laws of any calls from C.
pub mod Border
pub mod Laws
