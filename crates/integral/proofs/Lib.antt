-- What the functions compute, over plain numbers.
mod WholeNumbers
