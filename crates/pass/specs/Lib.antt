-- What the code of `pass` works out on its way.
pub mod Steps
