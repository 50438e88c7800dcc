pub mod LoanedSender
