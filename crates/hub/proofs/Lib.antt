-- Laws that the proofs of the functions cite.
mod Refusals
mod Holidays
mod Shares
mod Batches
