pub mod Enquired
