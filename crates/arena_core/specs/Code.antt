-- What an arena promises those who keep their bytes in it.
pub mod ArenaLending
pub mod Contents
pub mod Extents
pub mod Lending
pub mod Outside
pub mod Ownership
pub mod Written
