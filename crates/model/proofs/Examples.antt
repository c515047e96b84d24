-- Computed examples: runs on constants that the checker evaluates; and last books that meet the premises of the theorems.
pub mod Computes
pub mod Afternoon
pub mod Cases
pub mod BetweenRules
pub mod BeginCodes
pub mod ZeroLimits
pub mod LastMoments
pub mod Thresholds
pub mod Report
pub mod AnswerCodes
pub mod Cancels
pub mod Printed
pub mod Account
pub mod Bounds
pub mod Books
pub mod Example
