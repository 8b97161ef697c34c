pub mod Dealing
pub mod Rows
pub mod Gathering
pub mod Placing
pub mod Finishing
pub mod Lawful
pub mod ValidAfter
pub mod Seeded
