-- What the files and the sink that never fail show.
pub mod QuietFiles
pub mod QuietSink
