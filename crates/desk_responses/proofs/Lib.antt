mod Grown
mod Json
