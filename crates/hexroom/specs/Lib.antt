-- a lent room, a line's fields, and lists of lines put into the room, each with its laws
pub mod Room
pub mod Fields
pub mod Listing
-- theorems: what was written reads back
pub mod RoundTrip
