mod Blank
mod Floors
mod Tests
mod Batches
mod Certificates
mod Votes
mod Sound
mod Rising
mod NoFault
mod Cuts
mod RecordTexts
mod Following
mod ReadAgain
pub mod Loadable
mod ReadingTests
mod FirstFault
