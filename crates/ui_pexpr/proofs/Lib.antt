pub mod BackWords
mod FrontForms
mod Readings
mod Joins
mod Answered
mod Trees
mod Stays
