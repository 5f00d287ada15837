-- Single is a law for readers.
pub mod Single
