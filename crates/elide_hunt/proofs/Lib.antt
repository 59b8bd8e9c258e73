mod Hunted
mod Objects
mod Shares
mod Refusals
