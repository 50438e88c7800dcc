pub mod Skims
