-- Which calls on files are made, and which are to fail.
pub mod CallCodes
pub mod CallLogs
pub mod ListedCalls
