pub mod Text
pub mod Refused
pub mod Gr
pub mod Graph
pub mod GrDraft
pub mod Co
pub mod CoDraft
pub mod Rows
