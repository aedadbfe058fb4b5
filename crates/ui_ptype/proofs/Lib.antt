pub mod AskedReads
mod CodeReaders
mod NamedTypes
mod EntryReads
mod ElementReads
mod Covers
mod CoverTypes
mod CoverNames
mod Bare
