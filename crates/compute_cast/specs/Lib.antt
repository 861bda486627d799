pub mod Cast
pub mod Decimals
pub mod Stored
