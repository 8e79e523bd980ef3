pub mod ImageCalls
pub mod CopiedBlocks
pub mod JoinedCalls
pub mod WholeRecovery
pub mod SurveyedRecords
pub mod Looks
pub mod StartCopy
pub mod FreshLooks
