pub mod Listed
pub mod Width
