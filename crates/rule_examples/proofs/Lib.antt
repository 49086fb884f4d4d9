pub mod KnownEquations
