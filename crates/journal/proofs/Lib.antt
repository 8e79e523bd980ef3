pub mod SectorNumbers
pub mod BatchEntries
pub mod Engine
pub mod Formats
pub mod SectorsRead
pub mod StandingLaws
pub mod SlotTwo
pub mod Wholeness
