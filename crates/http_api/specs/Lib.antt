pub mod Hours
pub mod Http
pub mod Served
pub mod Sites
pub mod Inner
