-- Single states that the promise of `take` determines its result; Carried proves specs/Laws.
pub mod Single
pub mod Carried
