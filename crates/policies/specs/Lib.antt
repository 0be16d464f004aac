-- Certificate policies (document 01, "Rules on extensions", 409 to 411; document 02, CR 4, 503).
pub mod Policies
