-- The formulas over values computed once, outside the loop over pixels, equal document 01's.
pub mod Lifted
