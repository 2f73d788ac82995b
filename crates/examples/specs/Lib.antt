-- The table of examples, and what it means that one holds.
pub mod Example
pub mod Table
