-- The filter, and what it returns after any readings.
pub mod Filter
pub mod Latest
