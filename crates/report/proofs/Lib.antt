-- The laws of `report`.
pub mod InputWords
pub mod Verdict
pub mod LongInputs
