pub mod MmemRows
pub mod HeapmemRows
