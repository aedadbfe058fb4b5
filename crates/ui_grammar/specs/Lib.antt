pub mod Word
pub mod Operator
pub mod Both
pub mod Spells
pub mod Fits
pub mod Statement
pub mod Declaration
pub mod Parse
