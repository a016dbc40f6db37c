mod Ran
mod Lists
mod Held
mod Spelt
mod Accepted
mod Made
mod RuledPlaying
mod Ruled
