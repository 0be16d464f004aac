-- What an ASN.1 type is, RFC 5280's types, and the answers.
pub mod Grammar
pub mod Module
pub mod Answers
pub mod Workings
