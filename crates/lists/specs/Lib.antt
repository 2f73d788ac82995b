-- The definitions of `lists`: the numbers of a range that pass a test, and a value named once.
pub mod Range
pub mod Naming
