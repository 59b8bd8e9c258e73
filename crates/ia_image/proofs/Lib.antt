mod Sound
mod MoreRows
pub mod Opening
mod Fronts
mod Lending
mod Rows
mod Written
mod ReadBack
