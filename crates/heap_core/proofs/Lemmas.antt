-- Re-exports the names and lemmas that the proofs here cite.
pub mod ChunkHeaders
pub mod Gaps
pub mod Lists
pub mod Releases
pub mod Holes
pub mod Freed
pub mod Names
pub mod Bodies
pub mod Moves
pub mod GapWalks
pub mod Words
pub mod FreeCount
pub use Rattle.heap_core.proofs.Callers.{KeepsToSpan-then}
pub use Rattle.heap_core.proofs.Resized.{copied_front, resized_copy, resized_none}
pub use ChunkHeaders.*
pub use Gaps.*
pub use Lists.*
pub use Releases.*
pub use Holes.*
pub use Freed.*
pub use Names.*
pub use Bodies.*
pub use Moves.*
pub use GapWalks.*
unfoldable pub use Words.*
pub use FreeCount.*
