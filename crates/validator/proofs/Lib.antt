mod Agreeing
mod Fitting
mod Keys
mod Meeting
mod NeverDown
mod Rows
