mod Keeping
mod Listed
mod Reading
mod Retracing
mod Stopping
mod Within
mod Seeds
