pub mod Dictionaries
pub mod Lists
