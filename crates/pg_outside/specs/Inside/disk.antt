-- What a disk holds at each moment, and what calls by name do to it.
pub mod Disks
pub mod NewNames
pub mod Moments
pub mod Reads
pub mod Writes
pub mod Causes
pub mod WhatDiskShows
