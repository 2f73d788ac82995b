-- The laws of `taking_back`.
pub mod TripleWords
pub mod Marks
pub mod FramesOutside
pub mod CheckedTriples
pub mod TakenBackReply
pub mod TakeBackCall
pub mod OwnPage
