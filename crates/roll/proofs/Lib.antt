pub mod find
