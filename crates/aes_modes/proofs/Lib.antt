pub mod Computed
pub mod Octets
pub mod Squares
pub mod Field
pub mod Injective
pub mod Chaining
pub mod Streams
