mod Pieces
mod Words
mod Containers
mod Located
mod Growing
mod Spellings
mod Appending
