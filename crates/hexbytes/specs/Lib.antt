-- a line's bytes beside it
pub mod Decoded
-- work in blocks, and laws
pub mod Blocks
pub mod DecodeLaws
