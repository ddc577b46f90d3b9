pub mod DrawnNumbers
