-- The reading of expressions, specifiers and declarators at the front of tokens, with a limit on the
-- height of the tree. It goes by the tokens at the front alone and never back. What it reads, and that it
-- reads all that is spelled, the laws say against `sc_tree/specs/Grammar.antt`. Each file of `Reading` has
-- what the file of its name in `src` reads. Where a reading takes `types`, `limit` and `inner`, it reads with
-- trees of at most the limit, and `inner` reads those of one less.
pub mod Found
pub mod Grammar
pub mod Primary
pub mod Suffixes
pub mod Prefix
pub mod Chain
pub mod Conditional
pub mod Assignment
pub mod Comma
pub mod Records
pub mod Enums
pub mod Pieces
pub mod Parameters
pub mod Direct
pub mod Parse
unfoldable pub use Found.*
unfoldable pub use Grammar.*
unfoldable pub use Primary.*
unfoldable pub use Suffixes.*
unfoldable pub use Prefix.*
unfoldable pub use Chain.*
unfoldable pub use Conditional.*
unfoldable pub use Assignment.*
unfoldable pub use Comma.*
unfoldable pub use Records.*
unfoldable pub use Enums.*
unfoldable pub use Pieces.*
unfoldable pub use Parameters.*
unfoldable pub use Direct.*
unfoldable pub use Parse.*
