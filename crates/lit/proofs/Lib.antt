pub mod Lights
