-- a tag as it stands in a line's bytes
pub mod TagBytes
-- laws of tags, which the code of this crate and of those above it uses
pub mod TagLaws
pub mod LineTags
