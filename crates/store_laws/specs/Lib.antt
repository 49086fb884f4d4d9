pub mod SoundAnswers
pub mod SoundKept
