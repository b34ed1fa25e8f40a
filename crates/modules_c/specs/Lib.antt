-- what a reader must believe
pub mod Memb
pub mod Mmem
pub mod Heapmem
pub mod Ringbuf
-- the code's
pub mod Code
