pub mod ModeLists
pub mod Judged
pub mod Rows
pub mod RowLaws
pub mod Past
pub mod WrittenBlocks
