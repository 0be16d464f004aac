-- Where things are to be fetched (document 01, "Rules on extensions", 415 to 419; document 02, CR 1, 423 and 424, CR 4, 504 and 505), in the words of RFC 5280's ASN.1 module.
pub mod Uris
pub mod Access
pub mod Points
