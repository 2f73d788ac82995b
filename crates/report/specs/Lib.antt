-- The definitions of `report`: the words of the input, and what the program answers to an input.
pub mod Input
pub mod Report
