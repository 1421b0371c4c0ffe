mod FoundFiles
mod Leftovers
