pub mod OnInfinite
