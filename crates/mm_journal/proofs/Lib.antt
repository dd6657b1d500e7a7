mod Walking
mod Steps
mod Calls
