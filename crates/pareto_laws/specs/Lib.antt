pub mod Leg
pub mod TransferList
