pub mod Forms
pub mod Lock
pub mod Reading
pub mod Steps
pub mod Table
pub mod Words
