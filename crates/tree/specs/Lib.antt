-- a cluster and its ancestors as a set
pub mod Lineage
-- laws of it, of the top of a path and of lists that are filled, which the code uses
pub mod FillLaws
pub mod TopLaws
pub mod LineageLaws
