mod Ceilings
mod Sorted
mod Sums
