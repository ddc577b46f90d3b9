-- What the files and the sink in memory show.
pub mod StoredFile
pub mod MissingNames
pub mod MemoryFiles
pub mod MemorySink
