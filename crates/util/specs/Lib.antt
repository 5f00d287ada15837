-- Words and their fields, as document 01 reads them.
pub mod Words
pub mod Fields
pub mod Found
