pub mod NativeArithmetics
pub mod NativeNumbers
