-- What the contracts of growth and peeling say of labels.
pub mod Labels
