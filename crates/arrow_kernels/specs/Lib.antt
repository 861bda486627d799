pub mod Filtering
