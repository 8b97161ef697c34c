pub mod Json
pub mod SwiftFile
