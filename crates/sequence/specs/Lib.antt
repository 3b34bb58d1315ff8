-- sets of clusters
pub mod Sets
-- what holds a cluster back, and the sequence
pub mod Holding
-- laws of it, which the code uses
pub mod AtFirst
pub mod HoldingLaws
pub mod MarkLaws
pub mod Running
pub mod WaitingLaws
-- what holds the clusters back, before and after
pub mod Waits
