pub mod CollectedLaws
pub mod KeyedLaws
pub mod MultinomialLaws
pub mod SaturatingLaws
pub mod SumLaws
