pub mod SameLine
pub mod Looked
pub mod Below
pub mod Marks
pub mod FirstReads
pub mod Readers
pub mod Rows
pub mod Counting
