pub mod Onlookers
