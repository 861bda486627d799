pub mod Replies
pub mod Listing
pub mod Dispatch
