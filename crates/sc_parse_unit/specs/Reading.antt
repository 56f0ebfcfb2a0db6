-- The reading of initialisers, declarations and statements at the front of tokens, with a limit on the
-- height of the tree, and of whole segments. It goes by the tokens at the front alone and never back. Each
-- file of `Reading` has what the file of its name in `src` reads. Where a reading takes `types`, `below` and
-- `inner`, it reads with trees of at most one more than `below`, and `inner` reads those of at most `below`.
mod Fronts
mod Initialisers
mod Declarations
mod Parts
mod Blocks
mod Selection
mod Iteration
mod Statements
mod Braced
mod Outlines
mod Segments
unfoldable pub use Fronts.*
unfoldable pub use Initialisers.*
unfoldable pub use Declarations.*
unfoldable pub use Parts.*
unfoldable pub use Blocks.*
unfoldable pub use Selection.*
unfoldable pub use Iteration.*
unfoldable pub use Statements.*
unfoldable pub use Braced.*
unfoldable pub use Outlines.*
unfoldable pub use Segments.*
