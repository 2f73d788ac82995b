-- Need, the first microsecond in which the supply covers it, and the rounds of the search for that.
pub mod FirstTime
pub mod Times
pub mod Rounds
pub mod Pairwise
