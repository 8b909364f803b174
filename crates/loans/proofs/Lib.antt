pub mod Loan
pub mod Again
