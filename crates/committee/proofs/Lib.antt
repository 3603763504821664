pub mod Weights
pub mod ElementLemmas
pub mod KeyLemmas
pub mod FileLemmas
pub mod StakeLemmas
pub mod AnswerLemmas
pub mod Bits
pub mod MemoryLemmas
