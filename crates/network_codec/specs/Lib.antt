pub mod Form
pub mod Rules
pub mod File
pub mod Part
pub mod Stop
