-- What a writer as a sink shows, and what the loop over a writer does.
pub mod HostSink
pub mod Streams
