-- The definitions of `rows`: the words of a row, what an arrival charges, the part of a VCPU, and a plan whose rows are within their ranges.
pub mod RowWords
pub mod Reload
pub mod Part
pub mod ValidRows
