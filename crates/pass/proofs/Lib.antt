-- The laws of `pass`.
pub mod BlockLoops
pub mod BlockTally
pub mod BlockSequence
pub mod PassInvariant
pub mod SurveyInvariant
