pub mod Loop
pub mod Codec
pub mod EntryCodecs
