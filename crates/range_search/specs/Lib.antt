pub mod Leads
pub mod Search
