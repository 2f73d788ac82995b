-- What the code of a taking back goes by.
pub mod Triples
