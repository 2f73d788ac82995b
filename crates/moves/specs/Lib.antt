-- The definitions of `moves`: what its code works out on its way.
pub mod Steps
