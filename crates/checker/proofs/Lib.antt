-- the first line of a plan text
pub mod FirstLine
