mod Lookups
mod Searching
mod Stripped
mod Answering
