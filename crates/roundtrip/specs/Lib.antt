-- what is kept of records
pub mod Kept
-- the theorems
pub mod ReadOfWrite
pub mod WriteOfRead
pub mod AcceptedExactly
pub mod WriterExact
pub mod LongestSite
pub mod FirstBytes
pub mod Tags
pub mod EqualResults
-- laws that they use
pub mod Due
pub mod LinesBack
pub mod LinesAgain
