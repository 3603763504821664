mod BatchesStay
mod AfterStep
mod CertificatesStay
mod Collected
mod Completing
mod Deciding
mod Enough
mod Following
mod NewThere
mod OrderStays
mod Passing
mod SoundProposing
mod Standing
mod Starting
mod Staying
mod Step
mod VotesStay
pub mod AfterAll
pub mod Answering
pub mod Floors
pub mod FreshSound
pub mod Grown
pub mod PuttingOut
pub mod Proposing
pub mod SoundRounds
