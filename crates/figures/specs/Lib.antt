-- the numbers of accepted records
pub mod Numbers
-- laws of them, that the records describe a sound site, and of its tree, which the code and the theorems use
pub mod NumberLaws
pub mod SiteLaws
pub mod Climbs
