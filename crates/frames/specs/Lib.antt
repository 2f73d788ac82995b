-- The definitions of `frames`: the answers in document 01's numbers, and the tests with which its calls start.
pub mod Paper
pub mod Steps
