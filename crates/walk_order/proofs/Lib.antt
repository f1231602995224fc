pub mod ListLemmas
pub mod HierarchyLemmas
