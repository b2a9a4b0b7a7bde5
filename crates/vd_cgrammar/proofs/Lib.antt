pub mod Roots
mod PrintedPhrases
pub mod PrintedSpells
mod SameNodes
pub mod ReadingBack
pub mod Spelled
pub mod Spacing
mod Decimals
pub mod SectionWords
pub mod Shallowness
pub mod Starts
pub mod Again
pub mod SameStatements
pub mod CallsBack
pub mod StatementsBack
pub mod FunctionsBack
