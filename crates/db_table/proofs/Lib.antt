mod Digits
mod Powers
