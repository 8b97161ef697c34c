pub mod Hours
pub mod Tellings
pub mod Servings
