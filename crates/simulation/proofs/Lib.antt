mod Doing
mod Histories
mod Reading
mod Shown
mod Split
mod Turns
