-- the C functions' numbers
pub mod Numbers
-- laws of them, which the code and the theorems use
pub mod NumberLaws
pub mod SmallRefusals
