-- the reader
pub mod Reading
-- what tells tags apart while reading
pub mod Prints
-- lines as the code has them
pub mod Rows
-- theorems: what the place of a refused text is
pub mod Places
-- laws of them, which the code and the theorems use
pub mod RowLaws
pub mod PrintLaws
pub mod ReadLaws
pub mod Reached
