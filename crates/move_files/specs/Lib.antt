pub mod Outside
pub mod Held
pub mod Plans
pub mod SafeFiles
pub mod MemFiles
pub mod SafeSink
pub mod MemSink
