pub mod KnownTypes
