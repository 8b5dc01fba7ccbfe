pub mod Laying
pub mod Choosing
