mod Joined
pub mod Dues
pub mod Owed
pub mod Unread
pub mod Promised
pub mod ByRefusal
