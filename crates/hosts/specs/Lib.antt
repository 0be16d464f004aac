-- dNSNames and host names (document 01, "Rules on fields", 120, and "Rules on extensions", 412 to 414).
pub mod Names
pub mod Hosts
pub mod Workings
