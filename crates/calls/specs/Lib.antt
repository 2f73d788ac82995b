-- What the calls mean, what they write to a move list, and what a fault answers by the numbers that it keeps.
pub mod Table
pub mod FrameChoice
pub mod Calls
pub mod TakeBack
pub mod OnePass
