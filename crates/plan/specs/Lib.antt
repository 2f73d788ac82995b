-- The definitions of `plan`: the tests of a plan.
pub mod Tests
