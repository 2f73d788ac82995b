-- The definitions of `tally`.
pub mod Tally
pub mod Lanes
