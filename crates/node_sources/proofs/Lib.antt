mod Items
mod Branches
mod ChartsTold
mod StatementPoints
mod StatementsPlaced
mod StatementsSpelled
mod SclTold
mod SourcesTold
mod SclSourcesTold
pub mod Listed
mod LabelsTold
mod LanguagesTold
pub mod LineColumns
mod ChartParts
mod Pairing
mod Placing
pub mod Words
mod Spelling
mod Within
mod Telling
mod OnePlacedChart
mod Told
mod NodesTold
mod ExtendedParts
mod Reading
