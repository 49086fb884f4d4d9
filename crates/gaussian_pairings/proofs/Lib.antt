pub mod DirectionSums
pub mod GroupBounds
pub mod ListingSteps
pub mod NoiseCounts
pub mod PairingLaws
pub mod PairingOrder
pub mod Parity
