pub mod Alike
pub mod SitesLocal
pub mod TermsLocal
pub mod SearchLocal
