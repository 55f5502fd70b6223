-- how many replicas may run
pub mod Counts
