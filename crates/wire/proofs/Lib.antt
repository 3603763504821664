pub mod RisingLemmas
pub mod Joining
pub mod Transactions
pub mod DigestLemmas
pub mod Lengths
pub mod Pieces
