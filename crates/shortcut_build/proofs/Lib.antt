mod Starts
mod Listed
