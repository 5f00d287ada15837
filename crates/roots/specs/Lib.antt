-- Fourth roots of a block of numbers.
pub mod Many
