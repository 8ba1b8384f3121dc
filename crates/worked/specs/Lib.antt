pub mod Table
pub mod HeardTable
