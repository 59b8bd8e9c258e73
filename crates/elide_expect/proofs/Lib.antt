pub mod Behind
pub mod Lists
pub mod InOrder
pub mod ReadFronts
pub mod ReadWanted
pub mod Firsts
pub mod Passing
