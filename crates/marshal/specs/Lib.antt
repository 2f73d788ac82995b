-- The definitions of `marshal`: the board that 27 words stand for, and the numbers that a caller in C is told of a reply.
pub mod BoardWords
pub mod Replies
