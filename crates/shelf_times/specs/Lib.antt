pub mod Yeses
