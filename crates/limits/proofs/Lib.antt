pub mod Numbers
pub mod Queues
pub mod Limits
