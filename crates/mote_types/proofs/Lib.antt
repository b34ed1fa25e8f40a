pub mod Voices
mod SameNumbers
