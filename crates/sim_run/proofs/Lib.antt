mod Beginning
mod Keeping
mod Possible
