pub mod SoundFit
