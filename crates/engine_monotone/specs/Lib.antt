pub mod Larger
