-- The laws of `choice`.
pub mod ColourSteps
pub mod LaneLoops
pub mod Counts
pub mod Keys
pub mod ChosenFrame
pub mod TableKeys
pub mod TableCounts
