pub mod Graph
pub mod Core
pub mod Order
