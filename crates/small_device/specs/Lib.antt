pub mod Device
pub mod Mirror
