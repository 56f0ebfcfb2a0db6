pub mod Files
pub mod Typed
pub mod Heres
pub mod Parts
pub mod Bodied
pub mod Known
pub mod Checked
pub mod Left
