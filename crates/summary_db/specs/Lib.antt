pub mod Views
pub mod Places
pub mod Rule
pub mod Told
pub mod Passes
pub mod Lays
pub mod Ends
pub mod Shown
