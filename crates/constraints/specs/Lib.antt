-- the entries of the list
pub mod Entries
-- the list of a site's links
pub mod Links
-- laws of the entries, which the code uses
pub mod EntryLaws
pub mod Biases
