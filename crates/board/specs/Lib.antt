-- The definitions of `board`: the tests of a board and of a call's domain.
pub mod Tests
