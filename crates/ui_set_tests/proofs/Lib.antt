pub mod DeclSteps
