-- The laws of `tally`.
pub mod ClosedForm
pub mod TableLanes
