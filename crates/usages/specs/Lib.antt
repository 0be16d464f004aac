-- What a key may be used for (document 01, "Rules on extensions", 404, 405, 407 and 408; document 02, CR 1, 422, CR 4, 502), in the order of the rules.
pub mod Usage
pub mod Purposes
pub mod Workings
