mod Answered
mod Commands
mod Joined
