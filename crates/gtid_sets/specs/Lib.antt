pub mod Adding
pub mod Gives
pub mod Grammar
pub mod Pairs
pub mod Printed
pub mod Reserved
pub mod ReservedBy
pub mod Sets
