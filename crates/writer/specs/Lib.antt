-- the text of records, and the writer's answer
pub mod Text
-- laws of it, which the code uses
pub mod TextLaws
-- lines that are written one after the other
pub mod Rows
