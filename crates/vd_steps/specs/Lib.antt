pub mod Code
pub mod CodeLaws
pub mod PlainCode
pub mod PlainScript
pub mod Script
pub mod ScriptLaws
