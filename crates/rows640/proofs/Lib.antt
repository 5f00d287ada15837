-- Turns is the law that callers cite; Mask proves the laws of specs/Mask, and that the promise of `write_mask` determines its result.
pub mod Turns
pub mod Mask
