-- What names a card (document 02, CR 4, 507 and 508).
pub mod Uuids
pub mod Cards
