mod Ends
mod FaultOrder
mod Fronts
mod Loading
mod Outcomes
