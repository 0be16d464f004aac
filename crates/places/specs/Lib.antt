-- The elements of a certificate, and the statement that every entry of a report is at one of them. Read them in this order.
pub mod Statement
