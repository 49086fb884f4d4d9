pub mod VanishingConstants
pub mod HeldZeros
