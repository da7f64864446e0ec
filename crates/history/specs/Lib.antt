-- Lists of calls on a lent table, what is claimed of the table that a list leaves, what each operator is promised, the
-- claim, what one call leaves, which answers document 02's request c changed, and that registers from before requests a
-- and g run on.
pub mod Runs
pub mod Agreement
pub mod Promise
pub mod LastSave
pub mod Claim
pub mod Frame
pub mod OtherRules
pub mod OnlyAppends
pub mod Older
