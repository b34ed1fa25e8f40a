pub mod Capture
pub mod Flights
pub mod InFlight
pub mod Lines
