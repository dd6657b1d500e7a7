mod Changes
mod Encoding
mod Fitting
mod Recording
mod Adding
mod Staging
