mod Beginning
mod Headers
mod Kept
mod Members
mod OfOne
mod Slots
