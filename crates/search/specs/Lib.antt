-- what the figures of a site describe, and what the search says of them
pub mod Posed
-- laws of it, which the code uses; `Monotone` lets the search halve
pub mod PosedLaws
pub mod Monotone
pub mod Deciding
