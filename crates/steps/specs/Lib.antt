-- The steps of docs/RULES.md, "Growth" to "Marking": what the contracts of the decoder and of the marker cite.
pub mod Graph
pub mod Rows
pub mod Growth
pub mod Peeling
pub mod Shot
pub mod Marker
pub mod Call
pub mod Found
pub mod Laws
pub mod Cases
