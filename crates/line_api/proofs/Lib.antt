pub mod Answering
pub mod Asking
pub mod Constants
pub mod Serving
pub mod Tables
