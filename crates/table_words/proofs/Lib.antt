-- The laws of `table_words`.
mod BlockWords
pub mod DomainWords
pub mod LowestFound
pub mod Masks
pub mod SkippedFrames
