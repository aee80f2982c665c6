-- What a subscriber has after updates; the prices of trades; the levels that a call changes.
pub mod Following
pub mod Prices
pub mod Changing
pub mod Publishing
pub mod Levelling
pub mod Auctioning
pub mod Incoming
pub mod Uncrossed
pub mod Refreshing
