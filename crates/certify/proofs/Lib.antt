pub mod Places
pub mod VoteLaws
