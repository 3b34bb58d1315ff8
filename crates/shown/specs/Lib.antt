-- the part shown for a line
pub mod Shown
-- laws of it
pub mod ShownLaws
