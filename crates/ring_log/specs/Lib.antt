pub mod Log
pub mod Inquiries
