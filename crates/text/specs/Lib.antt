-- The lines of a verdict, and what writing leaves of a lent text.
pub mod Text
pub mod Writing
