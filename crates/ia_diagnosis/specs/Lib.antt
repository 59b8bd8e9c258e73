pub mod Diagnoses
