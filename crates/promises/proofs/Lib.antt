-- The contracts over plain lists (Contracts), and what they promise: the 2017 reader is exact (Exact), what a setting changes (Years), both
-- round trips (Again), the cleared sheet (Cleared), what is written at every later setting (Later), what is told of stored bytes (Stored), of
-- elements (Elements), texts (Codings), indexes (Index) and hops (Hop). Then what these rest on.
pub mod Contracts
pub mod Exact
pub mod Years
pub mod Again
pub mod Cleared
pub mod Later
pub mod Stored
pub mod Elements
pub mod Codings
pub mod Heads
pub mod Index
pub mod Hop
pub mod Rooms
pub mod Trips
-- what `is_ok` tells
pub mod Answered
