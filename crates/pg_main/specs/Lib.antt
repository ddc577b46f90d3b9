pub mod ProgramArguments
pub mod ProgramCodes
