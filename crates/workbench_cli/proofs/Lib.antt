mod DeliveryLemmas
mod NumberLemmas
mod ReadLemmas
mod RunLemmas
mod SoundLemmas
mod StepLemmas
mod WordLemmas
mod ServingLemmas
