mod Answered
mod Lasts
mod Parents
