-- The laws of `text`.
pub mod Decimal
pub mod Lines
pub mod Writing
