-- The limits of the frame table.
pub mod Limits
