-- The lowest of the set is placed
mod Placing
