pub mod Standing
pub mod Transition
pub mod Sending
pub mod Message
pub mod Receiving
pub mod Config
pub mod Node
pub mod Laws
