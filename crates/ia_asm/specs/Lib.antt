pub mod Faults
pub mod ListingText
pub mod Lister
pub mod Takers
pub mod Assemblies
pub mod ProgramLayouts
pub mod Assembles
pub mod OneImage
