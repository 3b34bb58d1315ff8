-- what a caller may rely on
pub mod Demands
-- laws that the clients' proofs use
pub mod DemandLaws
