mod Counted
mod Lookups
mod Placed
mod Validated
