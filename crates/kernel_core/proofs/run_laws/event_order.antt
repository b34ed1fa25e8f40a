pub mod Runs
pub mod AcceptedEvents
pub mod InPlace
pub mod WaitingEvents
pub mod Sound
