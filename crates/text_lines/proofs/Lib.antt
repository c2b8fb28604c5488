mod LineTexts
mod LineSays
pub mod Readers
mod LineReads
mod WholeFiles
