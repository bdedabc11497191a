pub mod lemmas
mod Ascending
mod Mapping
mod Noting
mod NumberedRows
mod Strips
