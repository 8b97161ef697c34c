pub mod Padding
pub mod Lists
pub mod RowByRow
