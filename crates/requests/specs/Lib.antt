pub mod Lent
