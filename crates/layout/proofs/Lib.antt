-- Laws of the layout: a point's numbers and the way back, that sound parts and tables are the layouts of well-formed
-- lists, and that the numbers of a changed register are the old numbers with those set that the row writers write.
pub mod Numbers
pub mod Cells
pub mod Parse
pub mod RowsSound
pub mod ListsSound
pub mod RowsLaid
pub mod PartSound
pub mod PartLays
pub mod Blocks
pub mod PartBlocks
pub mod RowWrites
pub mod Parts
pub mod PointParts
pub mod NewPoint
pub mod Tables
pub mod TableSound
pub mod SoundTable
pub mod Mirns
pub mod SoundParts
pub mod Editions
pub mod Notices
pub mod NewBooks
pub mod Words
