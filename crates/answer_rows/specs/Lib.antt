pub mod Answer
pub mod Printed
pub mod Counted
pub mod Room
pub mod Sent
