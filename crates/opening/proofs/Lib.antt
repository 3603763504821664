pub mod Configured
pub mod Reporting
pub mod Empty
pub mod Longer
pub mod EventRecords
pub mod GroupTexts
pub mod Histories
pub mod Laws
pub mod Opened
pub mod FirstGroups
pub mod PairReporting
pub mod PairLaws
mod StateTexts
mod Keys
mod Renewals
mod ReadAreas
mod AloneOpening
mod PairOpening
mod PairReplays
mod Replays
