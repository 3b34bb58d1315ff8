-- the check of records
pub mod Check
-- theorem: what the place of a refusal is
pub mod RecordPlaces
-- laws of the check: what it finds, what it means that it accepts, and which numbers it gives
pub mod CheckLaws
pub mod Checked
pub mod CheckNumbers
