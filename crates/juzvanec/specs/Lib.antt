-- The definitions of `juzvanec`: the number of the interface.
pub mod Interface
