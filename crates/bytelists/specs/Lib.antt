-- Lists of calls through the hub, on the bytes of a lent register, and what is claimed of them.
pub mod ByteLists
pub mod Claim
