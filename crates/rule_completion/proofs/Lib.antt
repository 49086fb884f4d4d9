mod Counted
mod Entries
mod Faults
mod Stages
mod Unique
mod Within
