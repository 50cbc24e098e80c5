pub mod Name
pub mod Record
pub mod Table
pub mod Find
