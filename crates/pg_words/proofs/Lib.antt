pub mod DigitValues
pub mod OtherArguments
pub mod SweepParts
pub mod AcceptedRequests
pub mod ArgumentsAt
pub mod FileOrder
pub mod Unbroken
