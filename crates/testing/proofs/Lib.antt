mod Fields
mod Turns
