pub mod lemmas
mod Depth
mod Ending
mod FirstFault
mod Growing
mod Members
mod Placing
mod RulesOf
mod SpaceFaults
mod Steady
mod SubFaults
mod Walking
